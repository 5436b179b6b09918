-- move_each: moves all prices.
use borrow.Author.Rules.{rules}
use Rattle.hall_moves.proofs.MoveCases.{moved_minutes_cases}
use Rattle.hall_moves.proofs.move_each.Goals as goal

pub moved_minute-requires : goal.moved_minute-requires
moved_minute-requires c = search (rules, moved_minutes_cases)

pub returns : goal.returns
returns c = search (rules, moved_minutes_cases)
