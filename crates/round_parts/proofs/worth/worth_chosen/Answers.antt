-- worth_chosen: the goals that the laws of the crate answer.
use borrow.Author.Rules.{rules}
use Rattle.round_parts.proofs.WorthCases.{worth_cases}
use Rattle.round_parts.proofs.worth.worth_chosen.Goals as goal

pub loop-t-init : goal.loop-t-init
loop-t-init c = search (rules, worth_cases)

pub overflow_add-sum : goal.overflow_add-sum
overflow_add-sum c = search (rules, worth_cases)

pub loop-t-smaller : goal.loop-t-smaller
loop-t-smaller c = search (rules, worth_cases)

pub loop-t-preserved : goal.loop-t-preserved
loop-t-preserved c = search (rules, worth_cases)

pub returns : goal.returns
returns c = search (rules, worth_cases)
