-- Invariant: the prices of the first m minutes are moved, the others are as before.
use Rattle.hall_moves.proofs.MoveCases.{MovedTo}
use Rattle.hall_moves.proofs.move_each.Given as goal

abbrev pub invariant-loop-m : goal.invariant-loop-m
invariant-loop-m l = MovedTo l.by l.initial.prices l.prices l.m
