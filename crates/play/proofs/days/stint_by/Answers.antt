-- `stint_by` meets its contract: a turn as a stint, cut off at the shift's end.
use Rattle.play.proofs.Rows.{by_cases}
use borrow.Author.Rules.{rules}
use Rattle.play.proofs.days.stint_by.Goals as goal

pub returns : goal.returns
returns c = search (rules, by_cases)
