-- Invariant: the sum is the ones of the first bytes.
use Rattle.choice_map.specs.Choice.{ones_in}
use lib.ListN.{length, drop}
use mathlib.Core.Path.{◌≡◌}
use Prim.Native.Nat.{◌+◌, ◌*◌, ◌≤◌}
use Rattle.choice_map.proofs.count_chosen.Given as goal

abbrev pub invariant-loop-byte : goal.invariant-loop-byte
invariant-loop-byte l = (l.byte-index ≤ length l.map) × (l.sum ≤ 8 * l.byte-index) × (l.sum + ones_in (drop l.byte-index l.map) ≡ ones_in l.map)
