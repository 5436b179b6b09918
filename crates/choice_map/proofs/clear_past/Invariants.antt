-- Invariant: the bits from n up to t are clear.
use Rattle.choice_map.specs.Choice.{chosen_in}
use Rattle.lists.specs.Lists.{every}
use lib.ListN.{length}
use mathlib.Core.Bool.{true, not}
use mathlib.Core.Path.{◌≡◌}
use Prim.Native.Nat.{◌+◌, ◌-◌, ◌*◌, ◌≤◌}
use Rattle.choice_map.proofs.clear_past.Given as goal

abbrev pub invariant-loop-t : goal.invariant-loop-t
invariant-loop-t l = (l.n ≤ l.t) × (l.t ≤ 8 * length l.map) × (every (λ k. not (chosen_in l.map (l.n + k))) (l.t - l.n) ≡ true)
