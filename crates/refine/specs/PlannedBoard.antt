-- The rounds of a shift, and how the functions hold its planned board; for inner functions only (request P-2). Assumes nothing.
use Rattle.std.specs.Prelude.{◌≡◌, Bool, List, ℕ, length}
use Rattle.wire.specs.Number.{puts}
use Rattle.model.specs.Choice.{choice, worth_of_choice}
use Rattle.choice_map.specs.Choice.{choice_in, Clean}
use Rattle.instance.specs.declared.columns.Size.{Size}
use Rattle.instance.specs.Columns.{turns_by}
use Rattle.plan_spec.specs.Plan.{board_for}
use Rattle.refine_spec.specs.Rounds.{Stage}
use Rattle.shift_look.specs.declared.Extent.{Extent}
use Rattle.price_rule.specs.Rules.{Shift}
use Rattle.price_rounds.specs.Rounds.{rounds_from}
use Rattle.refine.specs.declared.planned.Planned.{Planned}

-- at most so many rounds of a shift, from prices of 0 and some choice
abbrev pub shift_rounds : Extent → List ℕ → ℕ → List Bool → Stage
shift_rounds e cols rounds S = rounds_from (Shift e) cols rounds S

-- ---- as statements

-- the planned board stands at the front of lent bytes, with its bytes and its worth as numbers and its choice in a map
pub record PlannedIn (p : Size) (cols lent : List ℕ) (r : Planned) (board map : List ℕ) : Type 0 where
  pub board_is : board ≡ puts lent 0 (board_for (turns_by p cols))
  pub bytes_are : r.bytes ≡ length (board_for (turns_by p cols))
  pub worth_is : r.worth ≡ worth_of_choice (turns_by p cols) (choice (turns_by p cols))
  pub choice_is : choice_in p.count map ≡ choice (turns_by p cols)
  pub clean : Clean p.count map
