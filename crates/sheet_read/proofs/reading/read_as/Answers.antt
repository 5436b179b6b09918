-- read_as: reads any bytes as a sheet of a kind into any lent table.
use mathlib.Core.Path.{refl, sym, ◌∙◌}
use lib.Seq.{length-take-le}
use Rattle.std.proofs.Common.{arith}
use Rattle.refusal.proofs.Numbers.{number_from}
use Rattle.sheet.proofs.Whole.{whole_room_for, whole_rows_for, read_fault, read_small, read_done}
use borrow.Author.Rules.{rules}
use Rattle.sheet_read.proofs.reading.read_as.Goals as goal

pub returns-in-Err : goal.returns-in-Err
returns-in-Err c =
    rw c.refused.ensures (read_fault _ _ _ c.in-Err.ensures.0 (λ z. omega (arith, z, number_from c.in-Err.fault)))

pub returns-then-table-end : goal.returns-then-table-end
returns-then-table-end c =
    read_small _ _ _ c.in-Ok.ensures.0 c.requires refl c.if-table-end.true c.refused-then-table-end.ensures

pub slice_bounds-own-end : goal.slice_bounds-own-end
slice_bounds-own-end c = whole_room_for _ _ c.in-Ok.ensures.0 refl _ c.in-Ok.ensures.1

pub slice_bounds-copy_from_slice-end-3 : goal.slice_bounds-copy_from_slice-end-3
slice_bounds-copy_from_slice-end-3 c = sym (whole_rows_for _ _ c.in-Ok.ensures.0 refl _ c.in-Ok.ensures.1)

pub copy_from_slice-requires : goal.copy_from_slice-requires
copy_from_slice-requires c =
    length-take-le _ _ c.if-table-end.false ∙ sym (whole_rows_for _ _ c.in-Ok.ensures.0 refl _ c.in-Ok.ensures.1)

pub returns : goal.returns
returns c =
    read_done _ _ _ c.in-Ok.ensures.0 c.requires refl _ c.if-table-end.false c.in-Ok.ensures.1 (search rules)
