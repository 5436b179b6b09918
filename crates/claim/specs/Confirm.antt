-- Planning, then checking: the check's answer is the plan's own tally, worth and ceiling (document 01: the third demand). Assumes nothing.
use Rattle.std.specs.Prelude.{ℕ, cond, List, eqb}
use Rattle.refusal.specs.Written.{Written}
use Rattle.model.specs.Steps.{tally}
use Rattle.model.specs.Pick.{steps}
use Rattle.model.specs.Choice.{chosen, choice}
use Rattle.model.specs.Ceiling.{ceiling}
use Rattle.check_spec.specs.declared.CheckAnswer.{CheckAnswer}
use Rattle.instance_spec.specs.Problem.{sheet_turns}
use Rattle.check_spec.specs.Check.{checked}
use Rattle.plan_spec.specs.Plan.{plan_of}
use Rattle.refusal.specs.Outcome.{beside}
use Rattle.claim.specs.declared.Confirmed.{Confirmed}

-- what planning and checking at once return, and what the lent bytes hold then
pub record Confirmation : Type 0 where
  pub plan : Written
  pub check : CheckAnswer

-- a program's answer beside the lent bytes
abbrev pub confirmed : Confirmed → List ℕ → Confirmation
confirmed answer lent = record { plan = beside answer.plan lent; check = answer.check }

-- the tally, the worth and the ceiling of the planner's board of a sheet
abbrev pub planned_sums : List ℕ → CheckAnswer
planned_sums s = checked 0 (tally (steps (sheet_turns s))) (chosen (sheet_turns s).count (choice (sheet_turns s)) (sheet_turns s).worth) (ceiling (sheet_turns s) (steps (sheet_turns s)))

-- what the plan gives; the sums are what the check of that board returns
unfoldable pub confirm_of : List ℕ → List ℕ → Confirmation
confirm_of s lent =
    let p = plan_of s lent in
    record { plan = p; check = cond (eqb p.answer.refusal 0) (planned_sums s) (checked p.answer.refusal 0 0 0) }
