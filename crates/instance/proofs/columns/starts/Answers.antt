-- starts: all turns' starts, as that part of the columns.
use Rattle.instance.proofs.Rows.{column_cases}
use borrow.Author.Rules.{rules}
use Rattle.instance.proofs.columns.starts.Goals as goal

pub returns : goal.returns
returns c = search (rules, column_cases)
