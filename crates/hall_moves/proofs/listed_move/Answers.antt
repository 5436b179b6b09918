-- listed_move: the move for a draw: from the list if it is there, else worked out.
use Rattle.hall_moves.proofs.MoveCases.{listed_cases}
use borrow.Author.Rules.{rules}
use Rattle.hall_moves.proofs.listed_move.Goals as goal

pub returns-then-d-le-MOST_LISTED : goal.returns-then-d-le-MOST_LISTED
returns-then-d-le-MOST_LISTED c = search (rules, listed_cases)
