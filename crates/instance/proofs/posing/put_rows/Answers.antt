-- put_rows: the first n turns of a table go into the columns, one column after another.
use borrow.Author.Rules.{rules}
use Rattle.instance.proofs.Copying.{rows_cases}
use Rattle.instance.proofs.posing.put_rows.Goals as goal

pub put_ends-requires : goal.put_ends-requires
put_ends-requires c = search (rules, rows_cases)

pub returns : goal.returns
returns c = search (rules, rows_cases)
