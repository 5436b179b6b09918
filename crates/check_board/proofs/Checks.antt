-- The check's answer by its cases, each premise in the form in which the code's calls and tests leave it. Assumes nothing.
use Prim.Native.Nat.{ℕ, ◌≤◌}
use mathlib.Core.Path.{◌≡◌, sym, ◌∙◌}
use mathlib.Core.List.{List}
use native.Mathlib.Omega.{arith}
use lib.ListN.{length}
use Rattle.refusal.specs.Number.{malformed_board}
use Rattle.refusal.specs.Cause.{Cause, ◌when◌, first_of}
use Rattle.refusal.proofs.Order.{clear_cons}
use Rattle.model.specs.Turns.{Turns}
use Rattle.lists.proofs.Bools.{or_false_1}
use Rattle.sheet.specs.declared.answer.ReadAnswer.{ReadAnswer}
use Rattle.model.specs.Ceiling.{ceiling}
use Rattle.board.specs.Board.{board_header, board_tally, board_worth, written_steps}
use Rattle.board_open.specs.Open.{malformed}
use Rattle.board_open.proofs.Openings.{formed_header}
use Rattle.instance.specs.declared.columns.Size.{Size}
use Rattle.instance.specs.Columns.{turns_by}
use Rattle.instance_spec.specs.Problem.{sheet_turns}
use Rattle.instance.specs.Load.{shift_size, Loaded}
use Rattle.check_spec.specs.declared.CheckAnswer.{CheckAnswer}
use Rattle.check_spec.specs.Check.{board_causes, check_causes, checked, check_of}
use Rattle.refusal.specs.Outcome.{unless}
use Rattle.refusal.proofs.Outcome.{unless_first, unless_none, tried_stops, tried_goes}
use Rattle.instance.proofs.Posed.{loaded_tried, loaded_turns}

-- a board that gives no cause opens
pub passed_header : (T : Turns) (b : List ℕ) → 0 ≡ first_of (board_causes T b) → board_header ≤ length b
unfolding board_causes
passed_header T b e = formed_header b (or_false_1 (malformed b) _ (clear_cons (malformed_board when _) _ (λ y. omega arith) (sym e)).0)

-- ---- the entry

module _ (s b cols : List ℕ) {a : ReadAnswer} (e : Loaded s a cols) where
  pub check_sheet : {x : CheckAnswer} → (a.refusal ≡ 0 → ⊥) → x ≡ checked a.refusal 0 0 0 → x ≡ check_of s b
  unfolding check_of check_causes
  check_sheet z g = g ∙ tried_stops (loaded_tried s cols e) _ (λ k. checked k 0 0 0) _ z

  module _ (z : a.refusal ≡ 0) {p : Size} (q : p ≡ shift_size a.turns) {f : ℕ} (g : f ≡ first_of (board_causes (turns_by p cols) b)) where
    abbrev causes : List Cause
    causes = board_causes (sheet_turns s) b

    abbrev limit : ℕ
    limit = ceiling (sheet_turns s) (written_steps b)

    posed : f ≡ first_of causes
    posed = rw (loaded_turns s cols e z q) at g

    later : unless causes (checked 0 (board_tally b) (board_worth b) limit) (λ k. checked k 0 0 0) ≡ check_of s b
    unfolding check_of check_causes
    later = tried_goes (loaded_tried s cols e) _ (λ k. checked k 0 0 0) z causes

    pub check_board : {x : CheckAnswer} → (f ≡ 0 → ⊥) → x ≡ checked f 0 0 0 → x ≡ check_of s b
    check_board y x = x ∙ sym (unless_first causes _ (λ k. checked k 0 0 0) f (sym posed) y) ∙ later

    pub check_passed : {tallied worth c : ℕ} → f ≡ 0 → tallied ≡ board_tally b → worth ≡ board_worth b → c ≡ ceiling (turns_by p cols) (written_steps b) → checked 0 tallied worth c ≡ check_of s b
    check_passed y t v c =
        rw (t, v, c, loaded_turns s cols e z q)
        (sym (unless_none causes (checked 0 (board_tally b) (board_worth b) limit) (λ k. checked k 0 0 0) (sym posed ∙ y)) ∙ later)
