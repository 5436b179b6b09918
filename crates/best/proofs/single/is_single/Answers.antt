-- is_single: whether no slope has two turns and no turn names a driver.
use Rattle.best.proofs.SingleCases.{flags_cases}
use borrow.Author.Rules.{rules}
use Rattle.best.proofs.single.is_single.Goals as goal

pub all_single-requires : goal.all_single-requires
all_single-requires c = search (rules, flags_cases)
