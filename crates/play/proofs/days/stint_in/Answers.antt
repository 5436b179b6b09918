-- `stint_in` meets its contract: the stint in a row of the table.
use Rattle.play.proofs.Rows.{stint_cases}
use borrow.Author.Rules.{rules}
use Rattle.play.proofs.days.stint_in.Goals as goal

pub returns : goal.returns
returns c = search (rules, stint_cases)
