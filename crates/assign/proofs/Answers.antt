-- The entry's answer by its cases, each premise in the form in which the code's calls and tests leave it. Assumes nothing.
use Prim.Native.Nat.{ℕ, ◌<◌, ◌≤◌}
use mathlib.Core.Path.{◌≡◌, sym, ◌∙◌}
use mathlib.Core.List.{List, ◌++◌}
use native.Mathlib.Omega.{arith}
use lib.ListN.{length, drop}
use Rattle.refusal.specs.Number.{buffer_too_small}
use Rattle.sheet.specs.declared.answer.ReadAnswer.{ReadAnswer}
use Rattle.sheet.specs.Read.{turn_count, sheet_causes}
use Rattle.sheet.proofs.Readings.{sheet_numbered}
use Rattle.instance.specs.declared.columns.Size.{Size}
use Rattle.instance.specs.Columns.{turns_by}
use Rattle.instance_spec.specs.Problem.{sheet_turns}
use Rattle.instance.specs.Load.{shift_size, Loaded}
use Rattle.instance_spec.proofs.SheetTurns.{sheet_count}
use Rattle.assign_spec.specs.declared.AssignAnswer.{AssignAnswer}
use Rattle.assign_spec.specs.Numbering.{numbers_of, used_of}
use Rattle.assign_spec.specs.Assign.{assign_causes, assign_refused, assign_of}
use Rattle.assign_spec.proofs.Numbers.{numbers_places}
use Rattle.refusal.proofs.Outcome.{room_stopped, room_short, room_enough}
use Rattle.refusal.specs.Outcome.{beside}
use Rattle.instance.proofs.Posed.{loaded_turns}

-- ---- as the code leaves it

module _ (s cols lent : List ℕ) {r : ReadAnswer} (e : Loaded s r cols) where
  pub assign_fault : {x : AssignAnswer} → (r.refusal ≡ 0 → ⊥) → x ≡ assign_refused r.refusal → beside x lent ≡ assign_of s lent
  unfolding assign_of assign_causes
  assign_fault f g = rw g (sym (room_stopped (sheet_causes s) (turn_count s) (length lent) _ (λ k. beside (assign_refused k) lent) r.refusal (sym e.refusal) f))

  module _ (f : r.refusal ≡ 0) where
    pub assign_small : {x : AssignAnswer} → x ≡ assign_refused buffer_too_small → length lent < r.turns → beside x lent ≡ assign_of s lent
    unfolding assign_of assign_causes
    assign_small g h = rw g (sym (room_short (sheet_causes s) (turn_count s) (length lent) _ (λ k. beside (assign_refused k) lent) (sheet_numbered s) (e.posed f).sound (omega (arith, (e.posed f).count))))

    pub assign_done : {p : Size} {used : ℕ} {numbers : List ℕ} → p ≡ shift_size r.turns → numbers ≡ numbers_of (turns_by p cols) → used ≡ used_of (turns_by p cols) → r.turns ≤ length lent
        → beside (record { refusal = 0; groomers = used }) (numbers ++ drop r.turns lent) ≡ assign_of s lent
    unfolding assign_of assign_causes
    assign_done q a b h =
        let T = sheet_turns s in
        let sound = (e.posed f).sound in
        let count = (e.posed f).count in
        let size : length (numbers_of T) ≡ r.turns = numbers_places T ∙ sheet_count s sound ∙ sym count in
        rw (a, b, loaded_turns s cols e f q, ← size) (sym (room_enough (sheet_causes s) (turn_count s) (length lent) _ (λ k. beside (assign_refused k) lent) (sheet_numbered s) sound (omega (arith, count))))
