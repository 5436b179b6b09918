-- Invariant: the maps of the first i records are copied, and the sheet holds the records left.
use Rattle.archive_spec.specs.Kept.{maps_from}
use Rattle.archive_spec.specs.Column.{widths}
use Rattle.sheet.specs.Read.{header_bytes}
use Rattle.wire.specs.Number.{puts}
use lib.ListN.{length}
use Prim.Native.Nat.{◌+◌, ◌-◌, ◌≤◌}
use mathlib.Core.Path.{◌≡◌}
use Rattle.archive.proofs.keeping.fill_maps.Given as goal

abbrev pub invariant-loop-i : goal.invariant-loop-i
invariant-loop-i l = (l.i ≤ length l.initial.maps) × (length l.maps ≡ length l.initial.maps) × (l.at + (length l.initial.maps - l.i) + widths (maps_from (length l.initial.maps - l.i) l.s l.at) ≤ length l.s) × (puts l.maps l.i (maps_from (length l.initial.maps - l.i) l.s l.at) ≡ puts l.initial.maps 0 (maps_from (length l.initial.maps) l.s header_bytes))
