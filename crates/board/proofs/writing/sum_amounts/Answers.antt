-- sum_amounts: the goals that the laws of the crate answer.
use Rattle.board.proofs.StepBytes.{amounts_cases}
use borrow.Author.Rules.{rules}
use Rattle.board.proofs.writing.sum_amounts.Goals as goal

pub loop-i-init : goal.loop-i-init
loop-i-init c = search (rules, amounts_cases)

pub loop-i-preserved : goal.loop-i-preserved
loop-i-preserved c = search (rules, amounts_cases)
