-- Invariant: the turns at the places before j have their payers, and those of the last of these places are at hand.
use Rattle.shift_moves.proofs.PayerCases.{Along}
use Rattle.shift_moves.proofs.sum_payers.Given as goal

abbrev pub invariant-loop-j : goal.invariant-loop-j
invariant-loop-j l = Along l.n l.orders l.joining l.leaving l.payers l.here l.j
