-- count_numbers: the goals that the laws of the crate answer.
use borrow.Author.Rules.{rules}
use Rattle.shift_moves.proofs.PayerCases.{times_cases}
use Rattle.shift_moves.proofs.count_numbers.Goals as goal

pub loop-t-init : goal.loop-t-init
loop-t-init c = search (rules, times_cases)

pub overflow_add-times : goal.overflow_add-times
overflow_add-times c = search (rules, times_cases)

pub loop-t-preserved : goal.loop-t-preserved
loop-t-preserved c = search (rules, times_cases)

pub returns : goal.returns
returns c = search (rules, times_cases)
