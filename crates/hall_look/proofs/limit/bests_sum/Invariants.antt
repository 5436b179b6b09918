-- Invariant: sum is what the best windows of the vehicles gone through count for.
use Rattle.hall_look.proofs.LookCases.{SummedBests}
use Rattle.hall_look.proofs.limit.bests_sum.Given as goal

abbrev pub invariant-loop-count : goal.invariant-loop-count
invariant-loop-count l = SummedBests l.fn.most l.fn.vehicles l.count-index l.sum
