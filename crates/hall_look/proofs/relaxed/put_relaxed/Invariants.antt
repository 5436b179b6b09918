-- Invariant: the windows of the vehicles gone through are set, besides what was.
use mathlib.Core.Path.{◌≡◌}
use Rattle.hall_look.proofs.RelaxedCases.{with_taken}
use Rattle.hall_look.proofs.relaxed.put_relaxed.Given as goal

abbrev pub invariant-loop-number : goal.invariant-loop-number
invariant-loop-number l = l.map ≡ with_taken l.taken l.number-index l.initial.map
