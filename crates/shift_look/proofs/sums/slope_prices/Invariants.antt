-- Invariant: the prices of the slopes before k are summed up.
use Rattle.shift_look.specs.OrdersAndCounts.{slopes_sum, SummedTo}
use Rattle.shift_look.proofs.sums.slope_prices.Given as goal

abbrev pub invariant-loop-k : goal.invariant-loop-k
invariant-loop-k l = SummedTo (slopes_sum l.prices) l.slopes l.k l.sum
