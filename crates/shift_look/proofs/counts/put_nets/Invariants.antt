-- Invariant: the turns before t have what is left of their worths.
use Rattle.shift_look.specs.OrdersAndCounts.{left_after, NumbersTo}
use Rattle.instance.specs.Columns.{turns_by}
use Rattle.shift_look.proofs.counts.put_nets.Given as goal

abbrev pub invariant-loop-t : goal.invariant-loop-t
invariant-loop-t l = NumbersTo (left_after (turns_by l.p l.cols) l.paid) l.counts l.t
