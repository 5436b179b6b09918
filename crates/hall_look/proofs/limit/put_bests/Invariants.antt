-- Invariant: most and taken are those of the first t windows.
use Rattle.hall_look.specs.Look.{hall_for, Bests}
use Rattle.hall_look.proofs.limit.put_bests.Given as goal

abbrev pub invariant-loop-t : goal.invariant-loop-t
invariant-loop-t l = Bests (hall_for l.fn.h l.cols) l.prices l.t l.most l.taken
