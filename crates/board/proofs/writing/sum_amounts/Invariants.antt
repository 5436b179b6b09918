-- Invariant: the sum is the amounts of the first i steps.
use Prim.Native.Nat.{◌*◌, ◌≤◌}
use mathlib.Core.Path.{◌≡◌}
use Rattle.model.specs.Steps.{tally}
use Rattle.board.specs.Board.{steps_in}
use Rattle.board.proofs.writing.sum_amounts.Given as goal

abbrev pub invariant-loop-i : goal.invariant-loop-i
invariant-loop-i l = (l.i ≤ l.m) × (l.sum ≤ 65535 * l.i) × (l.sum ≡ tally (steps_in l.i l.steps))
