-- Invariant: the turns before t have what they pay.
use Rattle.shift_look.specs.OrdersAndCounts.{turns_in, PaymentsTo}
use Rattle.shift_look.proofs.counts.put_payments.Given as goal

abbrev pub invariant-loop-t : goal.invariant-loop-t
invariant-loop-t l = PaymentsTo (turns_in l.e l.cols) l.e.slopes l.prices l.paid l.t
