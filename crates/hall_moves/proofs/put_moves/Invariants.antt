-- Invariant: the list has the moves for the draws below d.
use Rattle.hall_moves.specs.Moves.{MovesTo}
use Rattle.hall_moves.proofs.put_moves.Given as goal

abbrev pub invariant-loop-d : goal.invariant-loop-d
invariant-loop-d l = MovesTo l.units l.change l.moves l.d
