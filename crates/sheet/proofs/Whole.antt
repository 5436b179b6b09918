-- What reading into a table with places for every sheet gives: the answer is the sheet's own. Assumes nothing.
use Prim.Native.Nat.{ℕ, ◌*◌, ◌<◌, ◌≤◌}
use mathlib.Core.Path.{◌≡◌, refl, sym, ◌∙◌, ap, ap₂}
use mathlib.Core.List.{List, ◌++◌}
use native.Mathlib.Omega.{arith}
use lib.ListN.{length, take, drop, length-append}
use lib.Seq.{take_at}
use Rattle.refusal.specs.Number.{buffer_too_small}
use Rattle.refusal.specs.Cause.{first_of}
use Rattle.turn.specs.Turn.{row_numbers}
use Rattle.sheet.specs.declared.answer.ReadAnswer.{ReadAnswer}
use Rattle.sheet.specs.Kind.{Kind, most_turns, shift_sheet, Sound}
use Rattle.sheet.specs.Read.{turn_count, table_of, causes_for, read_causes_for, read_refused, read_answer, answer_for, read_for, sheet_causes, answer_of, read_of, Reading}
use Rattle.refusal.specs.Written.{at_front}
use Rattle.sheet.proofs.SoundKinds.{shift_sheet_sound, shift_sheet_given}
use Rattle.sheet.proofs.Readings.{causes_numbered}
use Rattle.sheet.proofs.Tables.{table_length}
use Rattle.sheet.proofs.Unrefused.{legal_header}
use Rattle.refusal.specs.Outcome.{beside}
use Rattle.refusal.proofs.Outcome.{number_first, unless_none, unless_first, room_stopped, room_short, room_enough}

-- ---- the answer

module _ (K : Kind) (s : List ℕ) {a : ReadAnswer} (e : a ≡ answer_for K s) where
  pub whole_refusal_for : a.refusal ≡ first_of (causes_for K s)
  unfolding answer_for
  whole_refusal_for = ap (λ (x : ReadAnswer). x.refusal) e ∙ number_first (causes_for K s) (read_answer s) read_refused (λ (x : ReadAnswer). x.refusal) refl (λ k. refl)

  module _ (z : a.refusal ≡ 0) where
    pub whole_accepted_for : first_of (causes_for K s) ≡ 0
    whole_accepted_for = sym whole_refusal_for ∙ z

    pub whole_answer_for : a ≡ read_answer s
    unfolding answer_for
    whole_answer_for = e ∙ unless_none (causes_for K s) (read_answer s) read_refused whole_accepted_for

    pub whole_turns_for : a.turns ≡ turn_count s
    whole_turns_for = ap (λ (x : ReadAnswer). x.turns) whole_answer_for

    pub whole_few_for : Sound K → a.turns ≤ K.most.turns
    whole_few_for sound = rw whole_turns_for (legal_header K sound s whole_accepted_for).turns_to

    -- ---- the table

    module _ (lent : List ℕ) {t : List ℕ} (w : a.refusal ≡ 0 → t ≡ at_front (table_of s) lent) where
      pub whole_room_for : row_numbers * a.turns ≤ length t
      whole_room_for = rw (w z) (omega (arith, length-append (table_of s) (drop (length (table_of s)) lent), table_length s, whole_turns_for))

      pub whole_table_for : take (row_numbers * a.turns) t ≡ table_of s
      whole_table_for = rw (w z) (take_at (table_of s) (drop (length (table_of s)) lent) (row_numbers * a.turns) (omega (arith, table_length s, whole_turns_for)))

      pub whole_rows_for : length (take (row_numbers * a.turns) t) ≡ row_numbers * a.turns
      whole_rows_for = rw whole_table_for (omega (arith, table_length s, whole_turns_for))

-- ---- the reader: from its own table to the lent one

module _ (K : Kind) (s lent : List ℕ) {a : ReadAnswer} (e : a ≡ answer_for K s) where
  pub read_fault : (a.refusal ≡ 0 → ⊥) → beside a lent ≡ read_for K s lent
  unfolding read_for read_causes_for answer_for
  read_fault z =
      let f : first_of (causes_for K s) ≡ a.refusal = sym (whole_refusal_for K s e) in
      let g : a ≡ read_refused a.refusal = e ∙ unless_first (causes_for K s) (read_answer s) read_refused a.refusal f z in
      ap (λ (x : ReadAnswer). beside x lent) g ∙ sym (room_stopped (causes_for K s) (row_numbers * turn_count s) (length lent) (beside (read_answer s) (at_front (table_of s) lent)) (λ k. beside (read_refused k) lent) a.refusal f z)

  module _ (sound : Sound K) (z : a.refusal ≡ 0) where
    pub read_small : {x : ReadAnswer} → length lent < row_numbers * a.turns → x ≡ read_refused buffer_too_small → beside x lent ≡ read_for K s lent
    unfolding read_for read_causes_for
    read_small l x =
        let n = causes_numbered K sound.numbers s in
        rw x (sym (room_short (causes_for K s) (row_numbers * turn_count s) (length lent) _ _ n (whole_accepted_for K s e z) (omega (arith, whole_turns_for K s e z))))

    pub read_done : (zeros : List ℕ) {t u : List ℕ} → row_numbers * a.turns ≤ length lent → (a.refusal ≡ 0 → t ≡ at_front (table_of s) zeros) → u ≡ take (row_numbers * a.turns) t ++ drop (row_numbers * a.turns) lent
        → beside a u ≡ read_for K s lent
    unfolding read_for read_causes_for
    read_done zeros {t} {u} l w p =
        let size : row_numbers * a.turns ≡ length (table_of s) = omega (arith, table_length s, whole_turns_for K s e z) in
        let q : u ≡ at_front (table_of s) lent = p ∙ ap₂ (λ (x : List ℕ) (y : ℕ). x ++ drop y lent) (whole_table_for K s e z zeros w) size in
        let n = causes_numbered K sound.numbers s in
        rw (q, whole_answer_for K s e z) (sym (room_enough (causes_for K s) (row_numbers * turn_count s) (length lent) _ _ n (whole_accepted_for K s e z) (omega (arith, whole_turns_for K s e z))))

pub ruleset read_cases = (read_fault, read_small)

-- ---- a shift's sheet

module _ (s : List ℕ) {a : ReadAnswer} (e : a ≡ answer_of s) where
  pub whole_refusal : a.refusal ≡ first_of (sheet_causes s)
  unfolding sheet_causes
  whole_refusal = whole_refusal_for shift_sheet s e

  module _ (z : a.refusal ≡ 0) where
    pub whole_accepted : first_of (sheet_causes s) ≡ 0
    whole_accepted = sym whole_refusal ∙ z

    pub whole_few : a.turns ≤ most_turns
    unfolding shift_sheet
    whole_few = whole_few_for shift_sheet s e z shift_sheet_sound

-- its reader is that of its kind
module _ (s : List ℕ) {K : Kind} (k : K ≡ shift_sheet) where
  pub answer_shift_sheet : {a : ReadAnswer} → a ≡ answer_for K s → a ≡ answer_of s
  answer_shift_sheet e = e ∙ rw k

  pub read_shift_sheet : (lent : List ℕ) {x : Reading} → x ≡ read_for K s lent → x ≡ read_of s lent
  unfolding read_of
  read_shift_sheet lent e = e ∙ rw k

pub ruleset shift_sheet_cases = (shift_sheet_given, answer_shift_sheet, read_shift_sheet)
