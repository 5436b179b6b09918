-- sum_payers: the goals that the laws of the crate answer.
use borrow.Author.Rules.{rules}
use Rattle.shift_moves.proofs.PayerCases.{along_left}
use Rattle.shift_moves.proofs.sum_payers.Goals as goal

pub overflow_sub-here : goal.overflow_sub-here
overflow_sub-here c = search (rules, along_left)
