-- `move_on` meets its contract: when the groomer is free, and a stint more.
use Rattle.play.proofs.Rows.{next_cases}
use borrow.Author.Rules.{rules}
use Rattle.play.proofs.days.move_on.Goals as goal

pub returns : goal.returns
returns c = search (rules, next_cases)
