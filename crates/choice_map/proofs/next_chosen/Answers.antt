-- next_chosen: the goals that the laws of the crate answer.
use Rattle.choice_map.proofs.Next.{next_cases}
use borrow.Author.Rules.{rules}
use Rattle.choice_map.proofs.next_chosen.Goals as goal

pub returns-then-low-lt8 : goal.returns-then-low-lt8
returns-then-low-lt8 c = search (rules, next_cases)

pub loop-u-preserved : goal.loop-u-preserved
loop-u-preserved c = search (rules, next_cases)

pub returns : goal.returns
returns c = search (rules, next_cases)
