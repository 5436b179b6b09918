-- put_free: the goals that the laws of the crate answer.
use borrow.Author.Rules.{rules}
use Rattle.charge.proofs.Frees.{free_cases}
use Rattle.charge.proofs.choosing.put_free.Goals as goal

pub row_at-requires : goal.row_at-requires
row_at-requires c = search (rules, free_cases)

pub is_free-requires : goal.is_free-requires
is_free-requires c = search (rules, free_cases)

pub loop-t-preserved : goal.loop-t-preserved
loop-t-preserved c = search (rules, free_cases)

pub returns-clause-free_after : goal.returns-clause-free_after
returns-clause-free_after c = search (rules, free_cases)
