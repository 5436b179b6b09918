-- Invariant: the columns before this one are copied, and of this one the first t values.
use Rattle.instance.specs.Load.{CopiedTo}
use Rattle.instance.proofs.posing.put_column.Given as goal

abbrev pub invariant-loop-t : goal.invariant-loop-t
invariant-loop-t l = CopiedTo l.table l.n l.cols l.k l.t
