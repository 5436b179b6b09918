-- Invariant: the first i records are put down; with the rest after them they are all.
use Rattle.archive_spec.specs.Kept.{records_body}
use Rattle.archive_spec.specs.Column.{widths}
use Rattle.sheet.specs.Read.{header_bytes}
use Rattle.turn.specs.Turn.{turns_of_table}
use Rattle.wire.specs.Number.{puts}
use lib.ListN.{length, drop}
use Prim.Native.Nat.{◌+◌, ◌-◌, ◌≤◌}
use mathlib.Core.Path.{◌≡◌}
use Rattle.archive.proofs.restoring.put_records.Given as goal

abbrev pub invariant-loop-i : goal.invariant-loop-i
invariant-loop-i l = (l.i ≤ length l.maps) × (length l.out ≡ length l.initial.out) × (l.at + (length l.maps - l.i) + widths (drop l.i l.maps) ≡ header_bytes + length l.maps + widths l.maps) × (puts l.out l.at (records_body (drop l.i l.maps) (turns_of_table (length l.maps - l.i) l.table l.i)) ≡ puts l.initial.out header_bytes (records_body l.maps (turns_of_table (length l.maps) l.table 0)))
