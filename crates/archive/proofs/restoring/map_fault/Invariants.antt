-- Invariant: the maps from i on have the first cause of all.
use Rattle.archive_spec.specs.Archive.{maps_causes}
use Rattle.refusal.specs.Cause.{first_of}
use mathlib.Core.Bool.{true}
use lib.ListN.{length, drop}
use Prim.Native.Nat.{◌≤◌}
use mathlib.Core.Path.{◌≡◌}
use Rattle.archive.proofs.restoring.map_fault.Given as goal

abbrev pub invariant-loop-m : goal.invariant-loop-m
invariant-loop-m l = (l.m-index ≤ length l.maps) × (first_of (maps_causes l.rule l.first (drop l.m-index l.maps)) ≡ first_of (maps_causes l.rule true l.maps))
