-- Invariant: the first t-index turns of the order have their numbers, each groomer used is busy until its last turn and the gap are over, and none is free before the earliest minute.
use Rattle.instance.specs.Columns.{turns_by}
use Rattle.assign.specs.Serving.{NoneBefore, Serving}
use Rattle.assign.proofs.assigning.number_all.Given as goal

abbrev pub invariant-loop-t : goal.invariant-loop-t
invariant-loop-t l = Serving (turns_by l.p l.cols) l.t-index l.g.used l.busy l.numbers × NoneBefore l.busy l.g
