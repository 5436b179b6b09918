-- Invariant: the worths of the chosen turns before t are summed up, and t is the next of them, or no turn. Measure: the bits left.
use Prim.Native.Nat.{◌-◌, ◌*◌}
use lib.ListN.{length}
use Rattle.round_parts.proofs.WorthCases.{WorthTo}
use Rattle.round_parts.proofs.worth.worth_chosen.Given as goal

abbrev pub invariant-loop-t : goal.invariant-loop-t
invariant-loop-t l = WorthTo l.p l.cols l.map l.sum l.t

abbrev pub decreases-loop-t : goal.decreases-loop-t
decreases-loop-t l = 8 * length l.map - l.t
