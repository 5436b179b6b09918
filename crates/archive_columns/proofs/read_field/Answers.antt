-- read_field: reads a field's value at a place if the map names it, else gives the value before.
use Rattle.archive_spec.proofs.ColumnCases.{field_in_cases}
use borrow.Author.Rules.{rules}
use Rattle.archive_columns.proofs.read_field.Goals as goal

pub byte_field-requires : goal.byte_field-requires
byte_field-requires c = search (rules, field_in_cases)

pub word_field-requires : goal.word_field-requires
word_field-requires c = search (rules, field_in_cases)

pub returns-then-field-eq1 : goal.returns-then-field-eq1
returns-then-field-eq1 c = search (rules, field_in_cases)

pub returns-else-field-eq1 : goal.returns-else-field-eq1
returns-else-field-eq1 c = search (rules, field_in_cases)
