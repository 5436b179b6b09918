-- Invariant: the groomers of the turns before t are their drivers, and the rest is as it was.
use Rattle.shift_look.specs.OrdersAndCounts.{DriversPut}
use Rattle.shift_look.proofs.orders.put_drivers_as_groomers.Given as goal

abbrev pub invariant-loop-t : goal.invariant-loop-t
invariant-loop-t l = DriversPut l.cols l.room l.t
