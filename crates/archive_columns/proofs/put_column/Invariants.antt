-- Invariant: the rest of the column, put at the place reached, gives the whole column put; its bytes and those so far are all its bytes.
use mathlib.Core.Path.{◌≡◌}
use Prim.Native.Nat.{◌+◌, ◌-◌, ◌≤◌}
use lib.ListN.{length, drop}
use Rattle.wire.specs.Number.{puts}
use Rattle.turn.specs.Turn.{turns_of_table}
use Rattle.archive_spec.specs.Column.{column_size, values_of, column_of}
use Rattle.archive_columns.proofs.put_column.Given as goal

abbrev pub invariant-loop-i : goal.invariant-loop-i
invariant-loop-i l = (l.i ≤ length l.maps) × (length l.out ≡ length l.initial.out) × (l.at + column_size l.field (drop l.i l.maps) ≡ l.from + column_size l.field l.maps) × (puts l.out l.at (column_of l.field (drop l.i l.maps) (values_of l.field (turns_of_table (length l.maps - l.i) l.table l.i))) ≡ puts l.initial.out l.from (column_of l.field l.maps (values_of l.field (turns_of_table (length l.maps) l.table 0))))
