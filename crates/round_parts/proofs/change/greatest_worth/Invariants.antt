-- Invariant: the greatest worth of the turns before t is at hand.
use Rattle.round_parts.proofs.ChangeCases.{GreatestOf}
use Rattle.round_parts.proofs.change.greatest_worth.Given as goal

abbrev pub invariant-loop-t : goal.invariant-loop-t
invariant-loop-t l = GreatestOf l.fn.p l.cols l.t l.greatest
