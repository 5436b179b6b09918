-- Invariant: the sum is the width of the first i maps' fields.
use Rattle.archive_spec.specs.Column.{widths}
use Rattle.sheet.specs.Record.{record_bytes}
use lib.ListN.{length, drop}
use Prim.Native.Nat.{◌+◌, ◌*◌, ◌≤◌}
use mathlib.Core.Path.{◌≡◌}
use Rattle.archive.proofs.restoring.fields_width.Given as goal

abbrev pub invariant-loop-m : goal.invariant-loop-m
invariant-loop-m l = (l.m-index ≤ length l.maps) × (l.sum ≤ record_bytes * l.m-index) × (l.sum + widths (drop l.m-index l.maps) ≡ widths l.maps)
