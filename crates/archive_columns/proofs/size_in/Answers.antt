-- size_in: how many bytes a record with this map has for a field.
use Rattle.archive_spec.proofs.ColumnCases.{byte_size, wide_size}
use borrow.Author.Rules.{rules}
use Rattle.archive_columns.proofs.size_in.Goals as goal

pub returns-then-field-eq1 : goal.returns-then-field-eq1
returns-then-field-eq1 c = byte_size _ _ c.if-field-eq1.true

pub returns-else-field-eq1 : goal.returns-else-field-eq1
returns-else-field-eq1 c = wide_size _ _ (search rules) c.if-field-eq1.false
