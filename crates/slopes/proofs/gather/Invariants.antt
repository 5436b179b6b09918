-- Invariant: no more came than there is place for. Measure: the places left.
use Rattle.std.proofs.Common.{length, ◌-◌, ◌≤◌}
use Rattle.slopes.proofs.gather.Given as goal

abbrev pub invariant-loop-got : goal.invariant-loop-got
invariant-loop-got g l = l.got ≤ length l.sheet

abbrev pub decreases-loop-got : goal.decreases-loop-got
decreases-loop-got g l = length l.sheet - l.got
