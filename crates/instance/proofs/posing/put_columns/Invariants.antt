-- Invariant: the first k columns are copied.
use Rattle.instance.specs.Load.{Copied}
use Rattle.instance.proofs.posing.put_columns.Given as goal

abbrev pub invariant-loop-k : goal.invariant-loop-k
invariant-loop-k l = Copied l.table l.n l.cols l.k
