-- The reader's answer by its cases, each premise in the form in which the code's calls and tests leave it. Assumes nothing.
use Prim.Native.Nat.{ℕ, zero, suc, ◌*◌, ◌≤◌}
use mathlib.Core.Path.{◌≡◌, refl, sym, ◌∙◌, ap}
use mathlib.Core.Bool.{true}
use mathlib.Core.List.{List}
use native.Mathlib.Omega.{arith}
use lib.ListN.{length}
use Rattle.std.specs.Prelude.{Result, Ok, Err, IfOk, OnOk}
use Rattle.refusal.specs.Cause.{first_of}
use Rattle.refusal.specs.declared.Refusal.{Refusal}
use Rattle.refusal.specs.Failure.{number_of, failure}
use Rattle.refusal.proofs.Numbers.{number_from, refuses_with, passes}
use Rattle.refusal.proofs.Order.{numbered, numbered_append, first_stops, first_goes}
use Rattle.wire.specs.Number.{puts}
use Rattle.wire.proofs.Puts.{puts_front}
use Rattle.turn.specs.declared.Counts.{Counts}
use Rattle.turn.specs.Turn.{row_numbers, rows, Numbered}
use Rattle.turn.proofs.Rows.{rows_length}
use Rattle.sheet.specs.declared.record.Cursor.{Cursor}
use Rattle.sheet.specs.declared.answer.ReadAnswer.{ReadAnswer}
use Rattle.sheet.specs.Kind.{Kind, table_places, shift_sheet, Sound}
use Rattle.sheet.specs.Record.{record_causes, cursor_after, first_cursor}
use Rattle.sheet.specs.Read.{counts_in, turn_count, header_causes, records_causes, turns_from, causes_for, sheet_causes, turns_of, table_of, read_refused, answer_for, read_answer}
use Rattle.refusal.specs.Written.{at_front}
use Rattle.sheet.proofs.SoundKinds.{shift_sheet_sound}
use Rattle.sheet.proofs.Headers.{header_numbered, header_few}
use Rattle.sheet.proofs.Scans.{record_numbered}
use Rattle.refusal.proofs.Outcome.{unless_first, unless_none}

pub turns_from_length : (k : ℕ) (s : List ℕ) (c : Cursor) → length (turns_from k s c) ≡ k
unfolding turns_from
turns_from_length zero s c = refl
turns_from_length (suc k) s c = ap suc (turns_from_length k s (cursor_after s c))

-- ---- the header

-- a header was found: nothing is wrong with it
pub record HeaderFound (K : Kind) (s : List ℕ) (limits : Counts) (k : ℕ) : Type 0 where
  pub header_fine : first_of (header_causes K s) ≡ 0
  pub limits_are : limits ≡ counts_in s
  pub count_is : k ≡ turn_count s

module _ (K : Kind) (s : List ℕ) {h : Result (Counts × ℕ) Refusal} (e : failure h ≡ first_of (header_causes K s)) where
  pub header_found : {x : Counts × ℕ} → IfOk h (λ x. (x.0 ≡ counts_in s) × (x.1 ≡ turn_count s)) → h ≡ Ok x → HeaderFound K s x.0 x.1
  header_found v g = let w = rw g at v in record { header_fine = sym e ∙ passes g; limits_are = w.0; count_is = w.1 }

  pub header_refused : {k : Refusal} → h ≡ Err k → (first_of (header_causes K s) ≡ number_of k) × (number_of k ≡ 0 → ⊥)
  header_refused {k} g = (sym e ∙ refuses_with g, λ z. omega (arith, number_from k))

-- ---- the sheet: its cause is its header's, if that has one, else its records'

module _ (K : Kind) where
  pub sheet_by_header : (s : List ℕ) (f : ℕ) → first_of (header_causes K s) ≡ f → (f ≡ 0 → ⊥) → first_of (causes_for K s) ≡ f
  unfolding causes_for
  sheet_by_header s f e z = first_stops (header_causes K s) _ f e z

  module _ (numbers : Numbered K.refusals) where
    pub records_numbered : (k : ℕ) (s : List ℕ) (limits : Counts) (c : Cursor) → numbered (records_causes K k s limits c) ≡ true
    unfolding records_causes
    records_numbered zero s limits c = refl
    records_numbered (suc k) s limits c = numbered_append (record_causes K s limits c) _ (record_numbered K numbers s limits c) (records_numbered k s limits (cursor_after s c))

    pub causes_numbered : (s : List ℕ) → numbered (causes_for K s) ≡ true
    unfolding causes_for
    causes_numbered s = numbered_append (header_causes K s) _ (header_numbered K numbers s) (records_numbered (turn_count s) s (counts_in s) first_cursor)

    pub sheet_by_records : (s : List ℕ) → first_of (header_causes K s) ≡ 0 → first_of (causes_for K s) ≡ first_of (records_causes K (turn_count s) s (counts_in s) first_cursor)
    unfolding causes_for
    sheet_by_records s e = first_goes (header_causes K s) _ (header_numbered K numbers s) e

pub sheet_numbered : (s : List ℕ) → numbered (sheet_causes s) ≡ true
unfolding sheet_causes
sheet_numbered = causes_numbered shift_sheet shift_sheet_sound.numbers

-- ---- the answer

module _ (K : Kind) (s : List ℕ) where
  answer_refused : {x : ReadAnswer} (f : ℕ) → first_of (causes_for K s) ≡ f → (f ≡ 0 → ⊥) → x ≡ read_refused f → x ≡ answer_for K s
  unfolding answer_for
  answer_refused f e z x = x ∙ sym (unless_first (causes_for K s) (read_answer s) read_refused f e z)

  module _ {h : Result (Counts × ℕ) Refusal} {f : Refusal} {x : ReadAnswer} (g : h ≡ Err f) (e : failure h ≡ first_of (header_causes K s)) (x-is : x ≡ read_refused (number_of f)) where
    pub answer_header : x ≡ answer_for K s
    answer_header = let n = header_refused K s e g in answer_refused (number_of f) (sheet_by_header K s (number_of f) n.0 n.1) n.1 x-is

  module _ (sound : Sound K) (c : Cursor) {h : Result (Counts × ℕ) Refusal} {y : Counts × ℕ} (g : h ≡ Ok y) (e : failure h ≡ first_of (header_causes K s)) (v : IfOk h (λ x. (x.0 ≡ counts_in s) × (x.1 ≡ turn_count s))) where
    pub answer_room : {l : ℕ} → table_places ≤ l → row_numbers * y.1 ≤ l
    answer_room m = let n = header_found K s e v g in omega (arith, n.count_is, header_few K sound.numbers s n.header_fine, sound.turns)

    module _ (r : Result (Unit {0}) Refusal) (a : c ≡ first_cursor) (b : failure r ≡ first_of (records_causes K y.1 s y.0 c)) where
      scans : first_of (causes_for K s) ≡ failure r
      scans = let n = header_found K s e v g in sheet_by_records K sound.numbers s n.header_fine ∙ rw (← n.limits_are, ← n.count_is, ← a, ← b)

      pub answer_fault : {k : Refusal} {x : ReadAnswer} → r ≡ Err k → x ≡ read_refused (number_of k) → x ≡ answer_for K s
      answer_fault {k} q x = answer_refused (number_of k) (scans ∙ refuses_with q) (λ z. omega (arith, number_from k)) x

      module _ {u : Unit {0}} (q : r ≡ Ok u) where
        pub answer_done : record { refusal = 0; groomers = y.0.groomers; slopes = y.0.slopes; turns = y.1 } ≡ answer_for K s
        unfolding answer_for
        answer_done = let n = header_found K s e v g in rw (n.limits_are, n.count_is) (sym (unless_none (causes_for K s) (read_answer s) read_refused (scans ∙ passes q)))

        pub table_done : (lent : List ℕ) {t : List ℕ} → OnOk r (t ≡ puts lent 0 (rows (turns_from y.1 s c))) → table_places ≤ length lent → t ≡ at_front (table_of s) lent
        unfolding table_of turns_of
        table_done lent p m =
            let n = header_found K s e v g in
            let w : length (rows (turns_from y.1 s c)) ≤ length lent = omega (arith, rows_length (turns_from y.1 s c), turns_from_length y.1 s c, answer_room m) in
            rw q at p ∙ puts_front (rows (turns_from y.1 s c)) lent w ∙ rw (a, n.count_is)

-- where something is refused nothing is said of the table
pub fault_stops : (f : Refusal) {x : ReadAnswer} {t u : List ℕ} → x ≡ read_refused (number_of f) → x.refusal ≡ 0 → t ≡ u
fault_stops f x z = absurd (let w : number_of f ≡ 0 = sym (ap (λ (y : ReadAnswer). y.refusal) x) ∙ z in omega (arith, number_from f))

pub ruleset answer_cases = (answer_header, answer_room, answer_fault, fault_stops, answer_done, table_done)
