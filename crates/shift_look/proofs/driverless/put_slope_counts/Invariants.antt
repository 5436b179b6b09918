-- Invariant: the turns before t have their counts.
use Rattle.shift_look.specs.OrdersAndCounts.{turns_in, CountsTo}
use Rattle.shift_look.proofs.driverless.put_slope_counts.Given as goal

abbrev pub invariant-loop-t : goal.invariant-loop-t
invariant-loop-t l = CountsTo (turns_in l.e l.cols) l.e.slopes l.prices l.counts l.t
