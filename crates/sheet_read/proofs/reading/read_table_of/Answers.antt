-- read_table_of: reads any bytes as a sheet of a kind into a table with places for every sheet.
use Rattle.std.proofs.Common.{refl}
use Rattle.std.proofs.lemmas.Result.{err_from_is_err_and}
use Rattle.sheet.proofs.Readings.{answer_header, answer_room, answer_fault, answer_done, table_done, fault_stops}
use Rattle.sheet_read.proofs.reading.read_table_of.Goals as goal

pub read_records-requires : goal.read_records-requires
read_records-requires c = (
  c.requires.0.numbers,
  answer_room _ _ c.requires.0 c.first_cursor.result c.in_ok-limits.was c.read_header.ensures.refused c.read_header.ensures.read c.requires.1,
)

pub returns-in_err-limits : goal.returns-in_err-limits
returns-in_err-limits c =
    let p = err_from_is_err_and c.from_residual.result c.from_residual.ensures.1 in
    rw (p.1, p.2) (answer_header _ _ c.in_err-limits.was c.read_header.ensures.refused refl, fault_stops c.in_err-limits.field-0.0 refl)

pub returns-in_err-read_records : goal.returns-in_err-read_records
returns-in_err-read_records c =
    let r = c.from_residual-in_err-read_records in
    let p = err_from_is_err_and r.result r.ensures.1 in
    rw (p.1, p.2) (
      answer_fault _ _ c.requires.0 _ c.in_ok-limits.was c.read_header.ensures.refused c.read_header.ensures.read _ c.first_cursor.ensures c.read_records.ensures.refused c.in_err-read_records.was refl,
      fault_stops c.in_err-read_records.field-0.0 refl,
    )

pub returns : goal.returns
returns c = (
  answer_done _ _ c.requires.0 _ c.in_ok-limits.was c.read_header.ensures.refused c.read_header.ensures.read _ c.first_cursor.ensures c.read_records.ensures.refused c.in_ok-read_records.was,
  λ z. table_done _ _ c.requires.0 _ c.in_ok-limits.was c.read_header.ensures.refused c.read_header.ensures.read _ c.first_cursor.ensures c.read_records.ensures.refused c.in_ok-read_records.was _ c.read_records.ensures.table_after c.requires.1,
)
