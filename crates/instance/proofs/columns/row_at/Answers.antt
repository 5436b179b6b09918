-- row_at: the row at place i.
use Rattle.instance.proofs.Rows.{row_cases}
use borrow.Author.Rules.{rules}
use Rattle.instance.proofs.columns.row_at.Goals as goal

pub returns : goal.returns
returns c = search (rules, row_cases)
