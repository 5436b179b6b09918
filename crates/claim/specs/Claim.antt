-- The one claim: whatever bytes stand for sheet and board, whatever feasible set is named, and of what the planner makes of accepted sheets (document 01: the third demand). Assumes nothing.
use Rattle.std.specs.Prelude.{◌≡◌, ◌↔◌, Bool, List, length, ℕ, ◌≤◌}
use Rattle.refusal.specs.Written.{wrote, written_part}
use Rattle.model.specs.Steps.{Step, tally}
use Rattle.model.specs.Choice.{chosen, fits, fill}
use Rattle.model.specs.Filling.{FilledUp}
use Rattle.model.specs.Ceiling.{ceiling}
use Rattle.model.specs.Promises.{Promises}
use Rattle.model.specs.IntervalSelection.{Selects}
use Rattle.sheet.specs.Read.{counts_in, turn_count, turns_of}
use Rattle.sheet.specs.Accepted.{Accepted, SheetCause}
use Rattle.board.specs.Board.{board_tally, board_worth, board_length, board_choice, written_steps}
use Rattle.instance_spec.specs.Problem.{sheet_turns}
use Rattle.check_spec.specs.Check.{Passes, BoardKeeps, BoardCause, CheckCause, check_of, checked}
use Rattle.plan_spec.specs.Plan.{planned_board, plan_of}

-- what is read of s, and so what every set of its turns is made of, is what the reading a in words has
pub record ReadsAs (s : List ℕ) (a : Accepted s) : Type 0 where
  pub counts : counts_in s ≡ a.counts
  pub turns : turns_of s ≡ a.turns
  pub count : turn_count s ≡ length a.turns

-- b is the board of a run of the published algorithm, for the turns of s, that returns S and makes the steps xs
pub record ByMethod (s b : List ℕ) (S : List Bool) (xs : List Step) : Type 0 where
  -- its choice is S, filled up
  pub choice : board_choice b ≡ fill (fits (sheet_turns s)) (sheet_turns s).count S
  -- the same in words: besides S exactly the turns, in turn order, that conflict with none chosen
  pub filled : FilledUp (sheet_turns s) S (board_choice b)
  -- its steps are xs, and its tally is their sum
  pub steps : written_steps b ≡ xs
  pub tally_is : board_tally b ≡ tally xs
  -- its worth is that of its choice
  pub worth_is : board_worth b ≡ chosen (sheet_turns s).count (board_choice b) (sheet_turns s).worth

-- the third demand, of any two strings of bytes; and of the second, that the planner's board is the method's, filled up
pub record Claim (s b : List ℕ) : Type 0 where
  -- the turns and counts that are read of an accepted sheet are those of its reading in words
  pub reading : (a : Accepted s) → ReadsAs s a
  -- s is accepted exactly if no cause to refuse a sheet is there
  pub accepted_no_cause : Accepted s ↔ ((k r : ℕ) → SheetCause s k r → ⊥)
  -- the check passes b for s exactly if s is accepted and b keeps the rules for it
  pub exactly : Passes s b ↔ (Accepted s × BoardKeeps s b)
  -- b keeps the rules for an accepted s exactly if no cause from 12 to 17 to refuse it is there
  pub keeps_no_cause : Accepted s → BoardKeeps s b ↔ ((k r : ℕ) → BoardCause (sheet_turns s) b k r → ⊥)
  -- the check gives 0 exactly if no cause to refuse s or b is there
  pub passes_no_cause : Passes s b ↔ ((k r : ℕ) → CheckCause s b k r → ⊥)
  -- where b passes, the check's answer is b's own tally and worth, and the ceiling of its steps
  pub answers : Passes s b → check_of s b ≡ checked 0 (board_tally b) (board_worth b) (ceiling (sheet_turns s) (written_steps b))
  -- the planner's board of an accepted sheet passes
  pub ours : Accepted s → Passes s (planned_board s)
  -- the planner refuses nothing exactly if s is accepted and the lent bytes hold a board with as many steps as turns
  pub plans : (lent : List ℕ) → ((plan_of s lent).answer.refusal ≡ 0) ↔ (Accepted s × (board_length (turn_count s) (turn_count s) ≤ length lent))
  -- then, whatever bytes it is lent, it returns as many bytes as its board has; the lent bytes begin with this board, and after it hold what they held
  pub writes : (lent : List ℕ) → (plan_of s lent).answer.refusal ≡ 0 → plan_of s lent ≡ wrote (planned_board s) lent
  -- the published algorithm returns a choice and makes steps, and whatever these are, the planner's board is theirs
  pub method_returns : Accepted s → (S : List Bool) × (xs : List Step) × Selects (sheet_turns s) S xs
  pub method : Accepted s → (S : List Bool) (xs : List Step) → Selects (sheet_turns s) S xs → ByMethod s (planned_board s) S xs
  -- of the lent bytes themselves: where the planner refuses nothing, as many of them as it returns pass the check, and are the method's board, filled up
  pub ours_left : (lent : List ℕ) → (plan_of s lent).answer.refusal ≡ 0 → Passes s (written_part (plan_of s lent))
  pub method_left : (lent : List ℕ) → (plan_of s lent).answer.refusal ≡ 0 → (S : List Bool) (xs : List Step) → Selects (sheet_turns s) S xs → ByMethod s (written_part (plan_of s lent)) S xs
  -- whenever b passes, whoever made it, it binds every feasible set of the sheet's turns: among others, none is worth more than the ceiling that the check returns
  pub promises : Passes s b → Promises (sheet_turns s) (board_choice b) (board_tally b) (board_worth b) (check_of s b).ceiling
