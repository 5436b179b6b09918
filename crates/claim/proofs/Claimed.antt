-- The claim holds. That s is a string of bytes is used only where acceptance is meant in words: of lists of any numbers the promises hold as well. Assumes nothing.
use mathlib.Core.Path.{◌≡◌, sym, ap, ◌∙◌}
use mathlib.Core.Bool.{Bool}
use mathlib.Core.List.{List}
use lib.ListN.{length}
use Prim.Native.Nat.{ℕ}
use Rattle.refusal.specs.Cause.{first_of}
use Rattle.refusal.specs.Written.{written_part}
use Rattle.refusal.proofs.Written.{written_bytes}
use Rattle.wire.specs.Number.{Bytes}
use Rattle.model.specs.Steps.{Step, tally}
use Rattle.model.specs.Pick.{steps}
use Rattle.model.specs.Choice.{chosen, choice, go_back}
use Rattle.model.specs.Rules.{KeepsRules}
use Rattle.model.specs.Ceiling.{ceiling}
use Rattle.model.specs.IntervalSelection.{Selects}
use Rattle.model.proofs.Filled.{go_back_length}
use Rattle.model.proofs.Filling.{filled_is}
use Rattle.model.proofs.Promised.{planned_keeps}
use Rattle.model.proofs.Selection.{selection_exists, selection_unique, selection_filled}
use Rattle.sheet.specs.Read.{sheet_causes}
use Rattle.sheet.proofs.Readings.{sheet_numbered}
use Rattle.sheet.specs.Kind.{shift_sheet}
use Rattle.sheet.proofs.SoundKinds.{shift_sheet_sound}
use Rattle.sheet.proofs.Accepting.{sheet_reads, accepted_iff, accepted_no_cause}
use Rattle.board.specs.Board.{board_tally, board_worth, board_choice, written_steps}
use Rattle.instance_spec.specs.Problem.{sheet_turns}
use Rattle.instance_spec.proofs.SheetTurns.{sheet_count, sheet_lengths}
use Rattle.check_spec.specs.Check.{Passes, check_of, checked}
use Rattle.check_spec.proofs.Passing.{parts_pass, passes_iff, passes_answer, passes_promises}
use Rattle.check_spec.proofs.CheckCauses.{keeps_no_cause, passes_no_cause}
use Rattle.plan_spec.specs.Plan.{plan_causes, planned_board, plan_of}
use Rattle.plan_spec.proofs.PlanCauses.{plan_number, plan_accepted_iff}
use Rattle.plan_spec.proofs.Planned.{planned_back, plan_written}
use Rattle.board_open.proofs.OpenCauses.{formed_board}
use Rattle.claim.specs.Claim.{ByMethod, Claim}
use Rattle.refusal.proofs.Outcome.{enough_iff}

-- ---- the planner's board of a sheet that is not refused

module _ (s : List ℕ) (e : first_of (sheet_causes s) ≡ 0) where
  planned_rules : KeepsRules (sheet_turns s) (board_choice (planned_board s)) (written_steps (planned_board s)) (board_tally (planned_board s)) (board_worth (planned_board s))
  planned_rules = let r = planned_back s e in rw (r.chosen_turns, r.step_list, r.tallied, r.worth) (planned_keeps (sheet_turns s) (sheet_lengths s e))

  pub planned_passes : Passes s (planned_board s)
  planned_passes =
      let r = planned_back s e in
      parts_pass s (planned_board s) e (record { form = rw (r.turns ∙ sheet_count s e) at (formed_board (planned_board s) r.planned_opens); rules = planned_rules })

  -- and the check's answer is the plan's tally, worth and ceiling
  pub planned_answer : check_of s (planned_board s) ≡ checked 0 (tally (steps (sheet_turns s))) (chosen (sheet_turns s).count (choice (sheet_turns s)) (sheet_turns s).worth) (ceiling (sheet_turns s) (steps (sheet_turns s)))
  planned_answer = let r = planned_back s e in passes_answer s (planned_board s) planned_passes ∙ rw (r.tallied, r.worth, r.step_list)

-- ---- what a plan that is not refused has

module _ (s lent : List ℕ) (z : (plan_of s lent).answer.refusal ≡ 0) where
  pub plan_accepted : first_of (sheet_causes s) ≡ 0
  unfolding plan_causes
  plan_accepted = ((enough_iff (sheet_causes s) (length lent) _ (sheet_numbered s)).0 (sym (plan_number s lent) ∙ z)).0

  -- the bytes that the planner says it wrote are the board
  pub plan_front : written_part (plan_of s lent) ≡ planned_board s
  unfolding plan_of
  plan_front = written_bytes (plan_causes s (length lent)) (planned_board s) lent z

-- ---- the method

module _ (s : List ℕ) (e : first_of (sheet_causes s) ≡ 0) where
  made : {S : List Bool} {xs : List Step} → Selects (sheet_turns s) S xs → ByMethod s (planned_board s) S xs
  made {S} d =
      let r = planned_back s e in
      let u = selection_unique (sheet_turns s) (sheet_lengths s e) d in
      let chosen_is = r.chosen_turns ∙ selection_filled (sheet_turns s) (sheet_lengths s e) d in
      record {
        choice = chosen_is;
        filled = rw chosen_is (filled_is (sheet_turns s) (sheet_lengths s e) S (ap length u.0 ∙ go_back_length (sheet_turns s) (steps (sheet_turns s))));
        steps = r.step_list ∙ sym u.1;
        tally_is = r.tallied ∙ ap tally (sym u.1);
        worth_is = (planned_rules s e).worth_is;
      }

-- ---- the claim

pub claim : (s b : List ℕ) → Bytes s → Claim s b
claim s b y =
    record {
      reading = λ a. let r = sheet_reads shift_sheet shift_sheet_sound s a.counts a.turns a.sheet in record { counts = r.1; turns = r.2; count = r.3 };
      accepted_no_cause = accepted_no_cause y;
      exactly = passes_iff s b y;
      keeps_no_cause = keeps_no_cause s b y;
      passes_no_cause = passes_no_cause s b;
      answers = passes_answer s b;
      ours = λ a. planned_passes s ((accepted_iff y).1 a);
      plans = plan_accepted_iff y;
      writes = plan_written s;
      method_returns = λ a. (go_back (sheet_turns s) (steps (sheet_turns s)), steps (sheet_turns s), selection_exists (sheet_turns s) (sheet_lengths s ((accepted_iff y).1 a)));
      method = λ a S xs d. made s ((accepted_iff y).1 a) d;
      ours_left = λ lent z. rw (plan_front s lent z) (planned_passes s (plan_accepted s lent z));
      method_left = λ lent z S xs d. rw (plan_front s lent z) (made s (plan_accepted s lent z) d);
      promises = passes_promises s b;
    }
