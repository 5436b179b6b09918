-- The plan of one kind in a hall that columns hold, for the inner functions (request R-14). Assumes nothing.
use Rattle.std.specs.Prelude.{Bool, ◌||◌, List, ℕ}
use Rattle.charge_spec.specs.Plan.{choose_among}
use Rattle.hall_steps.specs.declared.one_kind.OneKind.{OneKind}
use Rattle.hall_steps.specs.OneKind.{kind_hall, of_kind, steps_by}

-- window t is meant: any is, or it is of the kind
unfoldable pub meant : OneKind → Bool → List ℕ → ℕ → Bool
meant a any cols t = any || of_kind a cols t

-- the kind's plan
unfoldable pub kind_choice : OneKind → List ℕ → List Bool
kind_choice a cols = choose_among (kind_hall a cols) (of_kind a cols) (steps_by a cols)
