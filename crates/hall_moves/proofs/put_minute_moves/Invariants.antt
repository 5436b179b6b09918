-- Invariant: the moves of the first m minutes are put.
use Rattle.hall_moves.specs.Moves.{EachTo}
use Rattle.hall_moves.proofs.put_minute_moves.Given as goal

abbrev pub invariant-loop-m : goal.invariant-loop-m
invariant-loop-m l = EachTo l.units l.change l.drawn l.by l.m
