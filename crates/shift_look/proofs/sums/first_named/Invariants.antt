-- Invariant: the turns at the places before j name no driver.
use Rattle.shift_look.proofs.SumCases.{NoneTo}
use Rattle.shift_look.proofs.sums.first_named.Given as goal

abbrev pub invariant-loop-j : goal.invariant-loop-j
invariant-loop-j l = NoneTo l.e l.cols l.j
