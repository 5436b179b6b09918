-- Invariant: `greatest` is the greatest driver that a turn before t names.
use Rattle.shift_look.specs.OrdersAndCounts.{greatest_driver}
use Rattle.instance.specs.Columns.{turns_by}
use mathlib.Core.Path.{◌≡◌}
use Rattle.shift_look.proofs.driverless.greatest_driver.Given as goal

abbrev pub invariant-loop-t : goal.invariant-loop-t
invariant-loop-t l = l.greatest ≡ greatest_driver (turns_by l.fn.p l.cols) l.t
