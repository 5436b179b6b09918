-- The planner's answer by its cases, each premise in the form in which the code's calls and tests leave it. Assumes nothing.
use Prim.Native.Nat.{ℕ, ◌<◌, ◌≤◌}
use mathlib.Core.Path.{◌≡◌, sym}
use mathlib.Core.List.{List}
use native.Mathlib.Omega.{arith}
use lib.ListN.{length}
use Rattle.refusal.specs.Number.{buffer_too_small}
use Rattle.refusal.proofs.Written.{kept_before, kept_small, wrote_enough}
use Rattle.wire.specs.Number.{puts}
use Rattle.wire.proofs.Puts.{puts_front}
use Rattle.sheet.specs.declared.answer.ReadAnswer.{ReadAnswer}
use Rattle.sheet.specs.Read.{sheet_causes}
use Rattle.sheet.proofs.Readings.{sheet_numbered}
use Rattle.board.specs.Board.{board_length}
use Rattle.instance.specs.declared.columns.Size.{Size}
use Rattle.instance.specs.Columns.{turns_by}
use Rattle.instance_spec.specs.Problem.{sheet_turns}
use Rattle.instance.specs.Load.{shift_size, Loaded}
use Rattle.instance_spec.proofs.SheetTurns.{sheet_count}
use Rattle.refusal.specs.declared.WriteAnswer.{WriteAnswer}
use Rattle.plan_spec.specs.Plan.{board_for, planned_board, plan_causes, plan_of}
use Rattle.refusal.specs.Outcome.{beside}
use Rattle.refusal.specs.Written.{write_refused}
use Rattle.plan_spec.proofs.Boards.{board_most}
use Rattle.instance.proofs.Posed.{loaded_turns}

-- ---- the answer

pub plan_room : (n : ℕ) (lent : List ℕ) {p : Size} {size : ℕ} → p ≡ shift_size n → size ≡ board_length n n → size ≤ length lent → board_length p.count p.count ≤ length lent
plan_room n lent q g h = rw q (omega (arith, g))

module _ (s cols lent : List ℕ) {r : ReadAnswer} (e : Loaded s r cols) where
  -- ---- refused

  pub plan_fault : {x : WriteAnswer} → (r.refusal ≡ 0 → ⊥) → x ≡ write_refused r.refusal → beside x lent ≡ plan_of s lent
  unfolding plan_of plan_causes
  plan_fault f g = rw g (sym (kept_before (sheet_causes s) _ _ lent r.refusal (sym e.refusal) f))

  module _ (f : r.refusal ≡ 0) where
    pub plan_small : {x : WriteAnswer} {size : ℕ} → x ≡ write_refused buffer_too_small → size ≡ board_length r.turns r.turns → length lent < size → beside x lent ≡ plan_of s lent
    unfolding plan_of plan_causes
    plan_small g p h = rw g (sym (kept_small (sheet_causes s) _ _ lent (sheet_numbered s) (e.posed f).sound (omega (arith, p, (e.posed f).count))))

    -- ---- planned

    pub plan_done : {p : Size} {size bytes : ℕ} {lent' : List ℕ} → p ≡ shift_size r.turns → bytes ≡ length (board_for (turns_by p cols)) → lent' ≡ puts lent 0 (board_for (turns_by p cols)) → size ≡ board_length r.turns r.turns
        → size ≤ length lent → beside (record { refusal = 0; bytes = bytes }) lent' ≡ plan_of s lent
    unfolding plan_of plan_causes planned_board
    plan_done q b l g h =
        let T = sheet_turns s in
        let sound = (e.posed f).sound in
        let room : length (board_for T) ≤ length lent = omega (arith, board_most T, sheet_count s sound, (e.posed f).count, g, h) in
        rw (b, l, loaded_turns s cols e f q, puts_front (board_for T) lent room) (sym (wrote_enough (sheet_causes s) _ (board_for T) lent (sheet_numbered s) sound (omega (arith, g, (e.posed f).count))))

pub ruleset plan_cases = (plan_fault, plan_small, plan_done)
