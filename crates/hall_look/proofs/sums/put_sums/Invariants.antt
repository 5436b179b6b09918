-- Invariant: the sums up to minute m are written, and sum is the last of them.
use Rattle.hall_look.specs.Look.{MinuteSumsTo}
use Rattle.hall_look.proofs.sums.put_sums.Given as goal

abbrev pub invariant-loop-m : goal.invariant-loop-m
invariant-loop-m l = MinuteSumsTo l.prices l.sums l.m l.sum
