-- put_ends: the goals that the laws of the crate answer.
use borrow.Author.Rules.{rules}
use Rattle.instance.proofs.Copying.{ends_cases}
use Rattle.instance.proofs.posing.put_ends.Goals as goal

pub with_end-row-requires : goal.with_end-row-requires
with_end-row-requires c = search (rules, ends_cases)

pub loop-t-preserved : goal.loop-t-preserved
loop-t-preserved c = search (rules, ends_cases)
