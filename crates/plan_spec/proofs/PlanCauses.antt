-- The planner's number: exactly the first cause in the order gives it, and 0 is given exactly where there is none. Assumes nothing.
use Prim.Native.Nat.{ℕ, ◌≤◌}
use mathlib.Core.Path.{◌≡◌}
use mathlib.Core.List.{List}
use mathlib.Core.Logic.{◌↔◌}
use lib.ListN.{length}
use Rattle.refusal.specs.Cause.{first_of}
use Rattle.refusal.specs.Written.{kept}
use Rattle.refusal.proofs.Written.{written_number, written_iff, written_not}
use Rattle.wire.specs.Number.{Bytes}
use Rattle.sheet.specs.Read.{turn_count}
use Rattle.sheet.specs.Accepted.{Accepted}
use Rattle.sheet.proofs.Accepting.{lent_accepted_iff}
use Rattle.sheet.proofs.ReadCauses.{lent_tell}
use Rattle.board.specs.Board.{board_length}
use Rattle.plan_spec.specs.Plan.{plan_causes, plan_of, FirstPlanCause}

pub plan_number : (s lent : List ℕ) → (plan_of s lent).answer.refusal ≡ first_of (plan_causes s (length lent))
unfolding plan_of
plan_number s lent = written_number (plan_causes s (length lent)) _ lent

pub plan_refused_iff : (s lent : List ℕ) (k : ℕ) → (k ≡ 0 → ⊥) → ((plan_of s lent).answer.refusal ≡ k) ↔ FirstPlanCause s (length lent) k
unfolding plan_of plan_causes
plan_refused_iff s lent = written_iff (plan_causes s (length lent)) _ lent (lent_tell s (board_length (turn_count s) (turn_count s)) (length lent))

-- a refusal leaves the lent bytes as they were, and says that none is written
pub plan_unchanged : (s lent : List ℕ) → ((plan_of s lent).answer.refusal ≡ 0 → ⊥) → plan_of s lent ≡ kept (plan_of s lent).answer.refusal lent
unfolding plan_of
plan_unchanged s lent = written_not (plan_causes s (length lent)) _ lent

-- the planner refuses nothing just if the sheet is accepted and the lent bytes hold a board with as many steps as turns
pub plan_accepted_iff : {s : List ℕ} → Bytes s → (lent : List ℕ) → ((plan_of s lent).answer.refusal ≡ 0) ↔ (Accepted s × (board_length (turn_count s) (turn_count s) ≤ length lent))
unfolding plan_causes
plan_accepted_iff {s} b lent = lent_accepted_iff b (board_length (turn_count s) (turn_count s)) (length lent) (plan_number s lent)
