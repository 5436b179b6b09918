-- `put_stint` meets its contract: a stint goes into a row of the table.
use Rattle.play.proofs.Rows.{stint_cases}
use borrow.Author.Rules.{rules}
use Rattle.play.proofs.days.put_stint.Goals as goal

pub returns : goal.returns
returns c = search (rules, stint_cases)
