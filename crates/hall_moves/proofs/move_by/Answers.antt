-- move_by: the move of the price of a minute at which so much is drawn.
use Rattle.hall_moves.proofs.MoveCases.{move_by_cases}
use borrow.Author.Rules.{rules}
use Rattle.hall_moves.proofs.move_by.Goals as goal

pub returns-then-drawn-units : goal.returns-then-drawn-units
returns-then-drawn-units c = search (rules, move_by_cases)

pub returns-else-drawn-units : goal.returns-else-drawn-units
returns-else-drawn-units c = search (rules, move_by_cases)
