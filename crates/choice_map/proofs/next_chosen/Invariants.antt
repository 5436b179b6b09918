-- Invariant: no turn from t up to u is chosen, so that the next one from u on is the next one from t on. Measure: the turns left.
use Rattle.choice_map.specs.Choice.{next_chosen}
use lib.ListN.{length}
use mathlib.Core.Path.{◌≡◌}
use Prim.Native.Nat.{◌-◌, ◌*◌, ◌≤◌}
use Rattle.choice_map.proofs.next_chosen.Given as goal

abbrev pub invariant-loop-u : goal.invariant-loop-u
invariant-loop-u l = (l.u ≤ 8 * length l.map) × (next_chosen l.map l.u ≡ next_chosen l.map l.t)

abbrev pub decreases-loop-u : goal.decreases-loop-u
decreases-loop-u l = 8 * length l.map - l.u
