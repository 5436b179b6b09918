-- draw_window: a window draws at its minutes.
use native.Mathlib.Omega.{arith}
use Rattle.hall_moves.specs.Moves.{RoomForMore}
use Rattle.hall_moves.proofs.draw_window.Goals as goal

pub overflow_add-drawn : goal.overflow_add-drawn
unfolding RoomForMore
overflow_add-drawn c = omega (arith, c.loop-m.invariant.later c.loop-m.m (omega arith), c.requires.1 c.loop-m.m (omega arith))
