-- The values of a line by their cases, each premise in the form in which the code's calls and tests leave it. Assumes nothing.
use Prim.Native.Nat.{ℕ, zero, suc, ◌+◌, ◌*◌, ◌/◌, ◌<◌, ◌≤◌, min}
use mathlib.Core.Path.{◌≡◌, refl, sym, ◌∙◌, ap}
use mathlib.Core.Bool.{Bool, cond}
use mathlib.Core.List.{List, [], ◌∷◌, ◌++◌}
use native.Mathlib.Omega.{arith}
use native.Mathlib.Numerals.{add-one}
use lib.ListN.{length, take, set, length-set}
use lib.Seq.{take-suc, take-length, take-set-le, get_or-set_same}
use borrow.Author.Tests.{lt-ltb, le-ltb}
use Rattle.lists.specs.Lists.{tab}
use Rattle.wire.specs.Number.{value_at}
use Rattle.refusal.specs.declared.WriteAnswer.{WriteAnswer}
use Rattle.refusal.specs.Outcome.{Outcome, beside}
use Rattle.write_spec.specs.Write.{write_of}
use Rattle.draw_spec.specs.DrawnSheet.{draw_of}
use Rattle.sheet.specs.declared.answer.ReadAnswer.{ReadAnswer}
use Rattle.assign_spec.specs.declared.AssignAnswer.{AssignAnswer}
use Rattle.best_spec.specs.declared.BestAnswer.{BestAnswer}
use Rattle.charge_spec.specs.declared.ChargeAnswer.{ChargeAnswer}
use Rattle.check_spec.specs.declared.CheckAnswer.{CheckAnswer}
use Rattle.check_spec.specs.Check.{check_of}
use Rattle.board_open.specs.declared.opening.CountAnswer.{CountAnswer}
use Rattle.board_open.specs.Open.{open_of}
use Rattle.board_open.specs.Chosen.{count_of, turn_chosen}
use Rattle.improve_spec.specs.declared.ImproveAnswer.{ImproveAnswer}
use Rattle.improve_spec.specs.Improve.{improve_of}
use Rattle.turn.specs.Turn.{counts_of}
use Rattle.corpus.specs.declared.entries.Line.{Line}
use Rattle.corpus.specs.declared.entries.Line.TheVariants.{Two, Four}
use Rattle.corpus.specs.Line.{asked_at, asked_long, numbers_in, table_in, choices_in, shown, read_line, write_line, check_line, assign_line, best_line, improve_line, charge_line, open_line}

-- ---- what an entry is asked with

module _ (bytes : List ℕ) (at : ℕ) where
  pub asked_none : length bytes < 20 → 0 ≡ asked_at bytes at
  unfolding asked_at
  asked_none h = rw (lt-ltb (length bytes) 20 h)

  pub asked_there : {r : ℕ} → 20 ≤ length bytes → r ≡ value_at bytes at 4 → r ≡ asked_at bytes at
  unfolding asked_at
  asked_there h e = rw (le-ltb (length bytes) 20 h) e

pub asked_long_lem : (bytes : List ℕ) {a b : ℕ} → a ≡ asked_at bytes 0 → b ≡ asked_at bytes 4 → a * 4294967296 + b ≡ asked_long bytes
unfolding asked_long
asked_long_lem bytes e f = rw (e, f)

pub ruleset asked_cases = (asked_none, asked_there, asked_long_lem)

-- ---- places that are filled from the first on

tab_more : (i : ℕ) (f : ℕ → ℕ) → tab (suc i) f ≡ tab i f ++ (f i ∷ [])
unfolding tab
tab_more zero f = refl
tab_more (suc i) f = ap (λ l. f 0 ∷ l) (tab_more i (λ k. f (suc k)))

module _ (t : List ℕ) (i : ℕ) where
  filled_more : (f : ℕ → ℕ) {v : ℕ} → i < length t → take i t ≡ tab i f → v ≡ f i → take (i + 1) (set t i v) ≡ tab (i + 1) f
  filled_more f {v = v} h e q =
      let room : i < length (set t i v) = simp length-set h in
      let more : take (suc i) (set t i v) ≡ tab i f ++ (f i ∷ []) = take-suc (set t i v) i 0 room ∙ rw (take-set-le i t i v (omega arith), get_or-set_same t i v 0 h, e, q) in
      rw add-one (more ∙ sym (tab_more i f))

  pub numbers_more : (bytes : List ℕ) {v n : ℕ} → i < n → n ≤ length t → take i t ≡ numbers_in bytes i → v ≡ value_at bytes (2 * i) 2 → take (i + 1) (set t i v) ≡ numbers_in bytes (i + 1)
  unfolding numbers_in
  numbers_more bytes h l e q = filled_more (λ k. value_at bytes (2 * k) 2) (omega arith) e q

  pub numbers_done : (bytes : List ℕ) {n : ℕ} → n ≤ i → i ≤ n → take i t ≡ numbers_in bytes i → take n t ≡ numbers_in bytes n
  numbers_done bytes {n = n} h l e = let q : n ≡ i = omega arith in rw q e

  pub choices_more : (board : List ℕ) {b : Bool} {v : ℕ} → i < length t → take i t ≡ choices_in board i → b ≡ turn_chosen board i → v ≡ cond b 1 0 → take (i + 1) (set t i v) ≡ choices_in board (i + 1)
  unfolding choices_in
  choices_more board h e f q = filled_more (λ k. cond (turn_chosen board k) 1 0) h e (rw f at q)

  pub choices_done : (board l : List ℕ) → length t ≤ i → i ≤ length l → length t ≡ length l → take i t ≡ choices_in board i → t ≡ choices_in board (length l)
  choices_done board l h k m e = let q : i ≡ length l = omega arith in sym (rw m at (take-length t)) ∙ (rw q at e)

pub numbers_start : (bytes t : List ℕ) → take 0 t ≡ numbers_in bytes 0
unfolding numbers_in tab
numbers_start bytes t = refl

pub choices_start : (board t : List ℕ) → take 0 t ≡ choices_in board 0
unfolding choices_in tab
choices_start board t = refl

pub ruleset filled_cases = (numbers_start, numbers_more, numbers_done, choices_start, choices_more, choices_done)

-- ---- what a line says

-- of every entry that is lent a place
pub shown_is : {A P : Type 0} (line : A → Line) (o : Outcome A P) {a : A} {p : P} → beside a p ≡ o → beside (line a) p ≡ shown line o
unfolding shown
shown_is {A} {P} line o e = ap (λ (x : Outcome A P). beside (line x.answer) x.lent) e

module _ (o : Outcome ReadAnswer (List ℕ)) {a : ReadAnswer} {l : List ℕ} where
  pub read_line_lem : beside a l ≡ o → beside (read_line a) l ≡ shown read_line o
  read_line_lem e = shown_is read_line o e

module _ (o : Outcome WriteAnswer (List ℕ)) {a : WriteAnswer} {l : List ℕ} where
  pub written_line : beside a l ≡ o → beside (write_line a) l ≡ shown write_line o
  written_line e = shown_is write_line o e

module _ (o : Outcome AssignAnswer (List ℕ)) {a : AssignAnswer} {l : List ℕ} where
  pub assign_line_lem : beside a l ≡ o → beside (assign_line a) l ≡ shown assign_line o
  assign_line_lem e = shown_is assign_line o e

module _ (o : Outcome BestAnswer (List ℕ)) {a : BestAnswer} {l : List ℕ} where
  pub best_line_lem : beside a l ≡ o → beside (best_line a) l ≡ shown best_line o
  best_line_lem e = shown_is best_line o e

module _ (o : Outcome ChargeAnswer (List ℕ)) {a : ChargeAnswer} {l : List ℕ} where
  pub charge_line_lem : beside a l ≡ o → beside (charge_line a) l ≡ shown charge_line o
  charge_line_lem e = shown_is charge_line o e

pub check_line_lem : (s b : List ℕ) {a : CheckAnswer} → a ≡ check_of s b → check_line a ≡ check_line (check_of s b)
check_line_lem s b e = ap check_line e

pub open_line_lem : (b : List ℕ) {r : ℕ} {a : CountAnswer} → r ≡ open_of b → a ≡ count_of b → Two r a.refusal a.turns ≡ open_line b
open_line_lem b e f = rw (e, f)

-- what was asked is what the input says
module _ (asked turns lent : List ℕ) {g s : ℕ} (eg : g ≡ asked_at asked 8) (es : s ≡ asked_at asked 12) {a : WriteAnswer} {l : List ℕ} where
  pub write_line_lem : {n : ℕ} {t : List ℕ} → n ≡ min (length turns / 2) 2412 → t ≡ numbers_in turns n → beside a l ≡ write_of (counts_of g s) t lent
      → beside (write_line a) l ≡ shown write_line (write_of (counts_of (asked_at asked 8) (asked_at asked 12)) (table_in turns) lent)
  write_line_lem en et e = shown_is write_line _ (rw (eg, es, et, en) at e)

  pub draw_line : {seed k : ℕ} → seed ≡ asked_long asked → k ≡ asked_at asked 16 → beside a l ≡ draw_of seed (counts_of g s) k lent
      → beside (write_line a) l ≡ shown write_line (draw_of (asked_long asked) (counts_of (asked_at asked 8) (asked_at asked 12)) (asked_at asked 16) lent)
  draw_line ed ek e = shown_is write_line _ (rw (eg, es, ed, ek) at e)

pub improve_line_lem : (limit sheet lent : List ℕ) {v w : ℕ} {a : ImproveAnswer} {l : List ℕ} → v ≡ asked_long limit → beside a l ≡ improve_of sheet v lent → w ≡ cond a.whole 1 0
    → beside (Four a.refusal w a.worth a.above a.visits) l ≡ shown improve_line (improve_of sheet (asked_long limit) lent)
improve_line_lem limit sheet lent ev e ew = rw ew (shown_is improve_line (improve_of sheet (asked_long limit) lent) (rw ev at e))

pub ruleset line_cases = (read_line_lem, written_line, assign_line_lem, best_line_lem, charge_line_lem, check_line_lem, open_line_lem)

pub ruleset asked_lines = (write_line_lem, draw_line, improve_line_lem)
