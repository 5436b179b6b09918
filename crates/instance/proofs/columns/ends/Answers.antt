-- ends: all turns' ends.
use Rattle.instance.proofs.Rows.{column_cases}
use borrow.Author.Rules.{rules}
use Rattle.instance.proofs.columns.ends.Goals as goal

pub returns : goal.returns
returns c = search (rules, column_cases)
