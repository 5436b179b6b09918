-- Invariant: the list is as the first m minutes leave it, and ready for the next.
use Rattle.play_spec.proofs.Moves.{Minutes}
use Rattle.play.proofs.play.Given as goal

abbrev pub invariant-loop-m : goal.invariant-loop-m
invariant-loop-m l = Minutes l.p.minutes l.p.moved l.initial.list l.table l.m l.list
