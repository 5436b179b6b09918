-- Invariant: the shares by the draws below this one are in the table.
use Rattle.shares.specs.Taking.{SharesTo}
use Rattle.shares.proofs.shares_of.Given as goal

abbrev pub invariant-loop-draw : goal.invariant-loop-draw
invariant-loop-draw l = SharesTo l.units l.amount l.draw l.shares
