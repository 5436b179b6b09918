-- Invariant: the turns and runs of the places before i are put, what stands before them is as it was, and from is where the run of the place before i begins.
use Rattle.shift_look.specs.OrdersAndCounts.{RunBefore, PlaceRunsTo}
use Rattle.instance.specs.Columns.{turns_by}
use Rattle.shift_look.proofs.runs.put_runs.Given as goal

abbrev pub invariant-loop-i : goal.invariant-loop-i
invariant-loop-i l = PlaceRunsTo (turns_by l.p l.cols) l.initial.orders l.orders l.i × RunBefore (turns_by l.p l.cols) l.i l.from
