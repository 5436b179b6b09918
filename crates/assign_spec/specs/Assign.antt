-- Groomers for all turns: any bytes as a sheet, and lent places for the turns' numbers (request R-4). Assumes nothing.
use Rattle.std.specs.Prelude.{ℕ, ◌≡◌, List, length, take, drop}
use Rattle.refusal.specs.Cause.{Cause, FirstAmong}
use Rattle.sheet.specs.Read.{turn_count, sheet_causes}
use Rattle.refusal.specs.Written.{at_front}
use Rattle.sheet.specs.Accepted.{LentCause}
use Rattle.instance_spec.specs.Problem.{sheet_turns}
use Rattle.assign_spec.specs.declared.AssignAnswer.{AssignAnswer}
use Rattle.assign_spec.specs.Numbering.{numbers_of, used_of, AssignPromises}
use Rattle.refusal.specs.Outcome.{Outcome, beside, unless, then_room}

-- after the sheet's causes: there must be at least as many lent places as turns
unfoldable pub assign_causes : List ℕ → ℕ → List Cause
assign_causes s = then_room (sheet_causes s) (turn_count s)

-- a refusal returns its number and no groomers
abbrev pub assign_refused : ℕ → AssignAnswer
assign_refused k = record { refusal = k; groomers = 0 }

-- on success each turn's number at its place, then what was there, and how many groomers are used; on a refusal all as before
unfoldable pub assign_of : List ℕ → List ℕ → Outcome AssignAnswer (List ℕ)
assign_of s lent =
    let T = sheet_turns s in
    unless (assign_causes s (length lent)) (beside (record { refusal = 0; groomers = used_of T }) (at_front (numbers_of T) lent)) (λ k. beside (assign_refused k) lent)

-- ---- as statements

-- a cause to refuse is there: the sheet's, or too few lent places
abbrev pub AssignCause : List ℕ → ℕ → ℕ → ℕ → Type 0
AssignCause s = LentCause s (turn_count s)

-- the first of them has number k
abbrev pub FirstAssignCause : List ℕ → ℕ → ℕ → Type 0
FirstAssignCause s places k = FirstAmong (AssignCause s places) k

-- of an answer that refuses nothing
pub record AssignPromised (s lent : List ℕ) : Type 0 where
  -- the first places have a number for each turn, the answer has how many groomers they use, and `AssignPromises` holds of both
  pub numbered : AssignPromises (sheet_turns s) (take (turn_count s) (assign_of s lent).lent) (assign_of s lent).answer.groomers
  -- the places after them are as they were
  pub behind : drop (turn_count s) (assign_of s lent).lent ≡ drop (turn_count s) lent
