-- Invariant: there is room at all minutes from the start to m.
use Prim.Native.Nat.{◌+◌, ◌-◌, ◌≤◌}
use mathlib.Core.Path.{◌≡◌}
use mathlib.Core.Bool.{true}
use Rattle.turn.specs.Turn.{shift_minutes}
use Rattle.charge.specs.Supply.{part_minutes, lasts_for}
use Rattle.charge.proofs.supply.lasts_long.Given as goal

abbrev pub invariant-loop-m : goal.invariant-loop-m
invariant-loop-m l = (l.start ≤ l.m) × (l.m ≤ l.end) × (l.last ≡ l.end - part_minutes) × (l.start + part_minutes ≤ l.end) × (l.end ≤ shift_minutes) × (lasts_for l.used l.start l.room (l.m - l.start) ≡ true)
