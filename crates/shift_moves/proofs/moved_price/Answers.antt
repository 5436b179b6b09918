-- moved_price: a price that so many pay, after a round.
use Rattle.shift_moves.proofs.MoveCases.{moved_cases}
use borrow.Author.Rules.{rules}
use Rattle.shift_moves.proofs.moved_price.Goals as goal

pub returns : goal.returns
returns c = search (rules, moved_cases)
