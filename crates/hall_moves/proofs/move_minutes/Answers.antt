-- move_minutes: moves the prices of all minutes by what the relaxed set draws then.
use Rattle.hall_moves.proofs.MoveCases.{minutes_cases}
use borrow.Author.Rules.{rules}
use Rattle.hall_moves.proofs.move_minutes.Goals as goal

pub move_each-requires : goal.move_each-requires
move_each-requires c = search (rules, minutes_cases)

pub returns : goal.returns
returns c = search (rules, minutes_cases)
