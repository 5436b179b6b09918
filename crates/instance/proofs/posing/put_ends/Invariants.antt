-- Invariant: the first t rows have their ends, the others are as they were.
use Rattle.instance.specs.Load.{EndsPut}
use Rattle.instance.proofs.posing.put_ends.Given as goal

abbrev pub invariant-loop-t : goal.invariant-loop-t
invariant-loop-t l = EndsPut l.n l.initial.cols l.cols l.t
