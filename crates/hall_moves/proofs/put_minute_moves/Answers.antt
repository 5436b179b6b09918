-- put_minute_moves: the move of each minute, where it is known what is drawn then.
use borrow.Author.Rules.{rules}
use Rattle.hall_moves.proofs.MoveCases.{each_cases}
use Rattle.hall_moves.proofs.put_minute_moves.Goals as goal

pub listed_move-requires : goal.listed_move-requires
listed_move-requires c = search (rules, each_cases)
