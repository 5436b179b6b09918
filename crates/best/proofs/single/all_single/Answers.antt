-- all_single: the goals that the laws of the crate answer.
use Rattle.best.proofs.SingleCases.{flags_cases, single_cases}
use borrow.Author.Rules.{rules}
use Rattle.best.proofs.single.all_single.Goals as goal

pub loop-x-init : goal.loop-x-init
loop-x-init c = (search rules, search single_cases)

pub is_first-requires : goal.is_first-requires
is_first-requires c = search (rules, flags_cases)

pub loop-x-preserved : goal.loop-x-preserved
loop-x-preserved c = (search (rules, flags_cases), search single_cases)

pub returns : goal.returns
returns c = search single_cases
