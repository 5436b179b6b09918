-- Invariant: the steps left, from the residuals as they are, give what all steps give from the first ones: whether all are right, the residuals at the end, and the costs on top of the sum.
use Rattle.check_board.proofs.Replays.{moves_from}
use Rattle.local_ratio.specs.Counting.{costs_from}
use Rattle.turn.specs.Turn.{most_worth}
use Rattle.local_ratio.specs.Bounds.{Residuals, ClosedTo}
use Rattle.check_board.specs.Moves.{moves_in}
use Rattle.model.specs.Rules.{all_right}
use Rattle.model.specs.Steps.{after_steps}
use Rattle.instance.specs.Columns.{turns_by}
use mathlib.Core.Path.{◌≡◌}
use Prim.Native.Nat.{◌+◌, ◌-◌, ◌*◌, ◌≤◌}
use Rattle.check_board.proofs.replay.replay.Given as goal

abbrev pub invariant-loop-i : goal.invariant-loop-i
invariant-loop-i l = Residuals l.p.count l.residuals × ClosedTo l.closed l.residuals × (l.sum ≤ 3 * most_worth * l.i) × (all_right (turns_by l.p l.cols) l.residuals (moves_from l.places (l.m - l.i) l.i l.steps) ≡ all_right (turns_by l.p l.cols) l.initial.residuals (moves_in l.places l.m l.steps)) × (after_steps (turns_by l.p l.cols) l.residuals (moves_from l.places (l.m - l.i) l.i l.steps) ≡ after_steps (turns_by l.p l.cols) l.initial.residuals (moves_in l.places l.m l.steps)) × (l.sum + costs_from (turns_by l.p l.cols) l.residuals (moves_from l.places (l.m - l.i) l.i l.steps) ≡ costs_from (turns_by l.p l.cols) l.initial.residuals (moves_in l.places l.m l.steps))
