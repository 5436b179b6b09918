-- Invariant: the rest of the column, read into the rows from i on, gives the table with the whole column; its bytes and those so far are all its bytes.
use mathlib.Core.Path.{◌≡◌}
use Prim.Native.Nat.{◌+◌, ◌*◌, ◌≤◌}
use lib.ListN.{length, drop}
use Rattle.turn.specs.Turn.{row_numbers}
use Rattle.archive_spec.specs.Column.{column_size, column_read, spread}
use Rattle.archive_columns.proofs.read_column.Given as goal

abbrev pub invariant-loop-i : goal.invariant-loop-i
invariant-loop-i l = (l.i ≤ length l.maps) × (length l.table ≡ length l.initial.table) × (l.at + column_size l.field (drop l.i l.maps) ≡ l.from + column_size l.field l.maps) × (spread l.table (l.i * row_numbers + l.field.place) (column_read l.field (drop l.i l.maps) l.k l.at l.old) ≡ spread l.initial.table l.field.place (column_read l.field l.maps l.k l.from 0))
