-- read_column: the goals that the laws of the crate answer.
use borrow.Author.Rules.{rules}
use Rattle.archive_spec.proofs.ColumnCases.{column_cases}
use Rattle.archive_columns.proofs.read_column.Goals as goal

pub read_field-old-requires : goal.read_field-old-requires
read_field-old-requires c = search (rules, column_cases)

pub loop-i-preserved : goal.loop-i-preserved
loop-i-preserved c = (search rules, search rules, search (rules, column_cases), search (rules, column_cases))

pub returns : goal.returns
returns c = search (rules, column_cases)
