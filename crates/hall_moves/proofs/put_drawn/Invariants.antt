-- Invariant: the windows of the set before t are drawn, and t is the next of them, or no window. Measure: the bits left.
use Prim.Native.Nat.{◌-◌, ◌*◌}
use lib.ListN.{length}
use Rattle.hall_look.specs.Look.{hall_for}
use Rattle.hall_moves.proofs.MoveCases.{SetDrawnTo}
use Rattle.hall_moves.proofs.put_drawn.Given as goal

abbrev pub invariant-loop-t : goal.invariant-loop-t
invariant-loop-t l = SetDrawnTo (hall_for l.h l.cols) l.h.size.count l.relaxed l.drawn l.t

abbrev pub decreases-loop-t : goal.decreases-loop-t
decreases-loop-t l = 8 * length l.relaxed - l.t
