-- Invariant: the flags are those of the slopes of the turns below x, and `all` says whether each of these turns has no driver and a slope that none before it has.
use Rattle.instance.specs.Flags.{Flagged}
use Rattle.best_spec.specs.Single.{single_turn}
use Rattle.instance.specs.Columns.{turns_by}
use Rattle.lists.specs.Lists.{every}
use mathlib.Core.Path.{◌≡◌}
use mathlib.Core.Bool.{true}
use Rattle.best.proofs.single.all_single.Given as goal

abbrev pub invariant-loop-x : goal.invariant-loop-x
invariant-loop-x l = Flagged (turns_by l.fn.p l.cols) (λ u. true) l.x l.flags × (l.all ≡ every (single_turn (turns_by l.fn.p l.cols)) l.x)
