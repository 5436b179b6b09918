-- word_field: a two-byte field where its bit stands, else the value before, likewise.
use Rattle.sheet.proofs.Records.{field_cases}
use borrow.Author.Rules.{rules}
use Rattle.sheet.proofs.record.word_field.Goals as goal

pub returns-then-s-at-lt2 : goal.returns-then-s-at-lt2
returns-then-s-at-lt2 c = search (rules, field_cases)

pub returns-then-bit-eq0 : goal.returns-then-bit-eq0
returns-then-bit-eq0 c = search (rules, field_cases)

pub returns-else-bit-eq0 : goal.returns-else-bit-eq0
returns-else-bit-eq0 c = search (rules, field_cases)
