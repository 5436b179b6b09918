-- Invariant: the keys of the turns drawn from x on, put from place i on, give the keys of all drawn turns; x can be drawn from.
use mathlib.Core.Path.{◌≡◌}
use Prim.Native.Nat.{◌-◌, ◌≤◌}
use lib.ListN.{length}
use Rattle.wire.specs.Number.{puts}
use Rattle.write_spec.specs.Key.{keys_of}
use Rattle.draw_spec.specs.Draw.{drawn_turns, Drawable}
use Rattle.draw.proofs.fill_keys.Given as goal

abbrev pub invariant-loop-i : goal.invariant-loop-i
invariant-loop-i l = (l.i ≤ length l.initial.keys) × (length l.keys ≡ length l.initial.keys) × Drawable l.x × (puts l.keys l.i (keys_of (drawn_turns (length l.initial.keys - l.i) l.counts l.x)) ≡ puts l.initial.keys 0 (keys_of (drawn_turns (length l.initial.keys) l.counts l.seed)))
