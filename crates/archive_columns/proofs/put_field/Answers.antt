-- put_field: writes a field's value at a place if the map names it; returns the place after it.
use Rattle.archive_spec.proofs.ColumnCases.{field_in_cases}
use borrow.Author.Rules.{rules}
use Rattle.archive_columns.proofs.put_field.Goals as goal

pub put_byte_field-requires : goal.put_byte_field-requires
put_byte_field-requires c = search (rules, field_in_cases)

pub put_word_field-requires : goal.put_word_field-requires
put_word_field-requires c = search (rules, field_in_cases)

pub returns-then-field-eq1 : goal.returns-then-field-eq1
returns-then-field-eq1 c = search (rules, field_in_cases)

pub returns-else-field-eq1 : goal.returns-else-field-eq1
returns-else-field-eq1 c = search (rules, field_in_cases)
