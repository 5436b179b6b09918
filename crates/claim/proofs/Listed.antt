-- What the listing hands back is the listing of the planner's board and of the check's answer for it. Assumes nothing.
use Prim.Native.Nat.{ℕ}
use mathlib.Core.Path.{◌≡◌, sym, ◌∙◌, ap}
use mathlib.Core.List.{List}
use lib.ListN.{length}
use Rattle.refusal.specs.Cause.{first_of}
use Rattle.refusal.specs.Written.{wrote, written_part}
use Rattle.refusal.proofs.Written.{written_all}
use Rattle.sheet.specs.Read.{sheet_causes}
use Rattle.sheet.proofs.Readings.{sheet_numbered}
use Rattle.instance_spec.specs.Problem.{sheet_turns}
use Rattle.check_spec.specs.Check.{check_of}
use Rattle.plan_spec.specs.Plan.{planned_board, plan_of}
use Rattle.plan_spec.proofs.Planned.{planned_back}
use Rattle.list_spec.specs.List.{sums_for, listing_for, sheet_listing, list_causes, list_of}
use Rattle.list_spec.proofs.Listed.{sheet_rounds, sheet_lines, list_number}
use Rattle.claim.specs.Listed.{sums_in, text_for, ListPromised}
use Rattle.claim.proofs.Claimed.{planned_passes, planned_answer, plan_front}
use Rattle.refusal.proofs.Outcome.{enough_iff}

-- ---- of the planner's board

module _ (s : List ℕ) (e : first_of (sheet_causes s) ≡ 0) where
  sums_same : sums_for (sheet_turns s) ≡ sums_in (check_of s (planned_board s))
  unfolding sums_for
  sums_same = rw (planned_answer s e)

  planned_listing : sheet_listing s ≡ text_for s (planned_board s)
  unfolding sheet_listing listing_for
  planned_listing = rw (sums_same, (planned_back s e).chosen_turns)

-- ---- of an answer that refuses nothing

module _ (s lent : List ℕ) (z : (list_of s lent).answer.refusal ≡ 0) where
  list_accepted : first_of (sheet_causes s) ≡ 0
  unfolding list_causes
  list_accepted = ((enough_iff (sheet_causes s) (length lent) _ (sheet_numbered s)).0 (sym (list_number s lent) ∙ z)).0

  list_wrote : list_of s lent ≡ wrote (sheet_listing s) lent
  unfolding list_of
  list_wrote = written_all (list_causes s (length lent)) (sheet_listing s) lent z

  listing_promised : ListPromised s (planned_board s) lent
  listing_promised =
      let e = list_accepted in
      record {
        passes = planned_passes s e;
        writes = list_wrote ∙ ap (λ (text : List ℕ). wrote text lent) (planned_listing s e);
        rounds = λ h. rw (planned_back s e).chosen_turns (sheet_rounds s e h);
        turn_lines = rw (planned_back s e).chosen_turns (sheet_lines s e);
      }

  -- whatever places are lent, the text is that of the board that the planner writes
  pub list_promised : (place : List ℕ) → (plan_of s place).answer.refusal ≡ 0 → ListPromised s (written_part (plan_of s place)) lent
  list_promised place y = rw (plan_front s place y) listing_promised
