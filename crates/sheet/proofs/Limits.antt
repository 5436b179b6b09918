-- Two limits on turns: what both readers accept they read alike, a sheet within both gets one answer, and what the smaller accepts the larger accepts. For any two limits of any kind, then for a shift's and the short. Assumes nothing.
use Prim.Native.Nat.{ℕ, ◌*◌, ◌≤◌}
use mathlib.Core.Path.{◌≡◌, refl, sym, ◌∙◌, ap}
use mathlib.Core.Logic.{◌≢◌, ◌↔◌}
use mathlib.Core.List.{List}
use native.Mathlib.Omega.{arith}
use lib.ListN.{length, take, drop}
use lib.Seq.{take_at, drop_at}
use Rattle.refusal.specs.Number.{too_many_turns, too_many_for_short}
use Rattle.wire.specs.Number.{Bytes}
use Rattle.turn.specs.Turn.{row_numbers}
use Rattle.sheet.specs.Kind.{Kind, shift_sheet, with_turns, most_turns, Sound}
use Rattle.sheet.specs.Read.{turn_count, table_of, causes_for, read_causes_for, read_for, read_of, Reading}
use Rattle.refusal.specs.Written.{at_front}
use Rattle.sheet.specs.Promises.{ReadPromisedFor}
use Rattle.sheet.specs.Accepted.{short_header, other_mark, groomer_count, slope_count, turn_count_cause, no_map, wrong_map, short_fields, slope, groomer, time, worth, driver, bytes_behind, ReadCauseFor}
use Rattle.sheet.proofs.Alike.{same_reading}
use Rattle.sheet.proofs.SoundKinds.{shift_sheet_sound}
use Rattle.sheet.proofs.Accepting.{read_accepted_iff_for}
use Rattle.refusal.proofs.Order.{clear_append}
use Rattle.sheet.proofs.Readings.{causes_numbered}
use Rattle.sheet.proofs.ReadCauses.{read_number_for, read_refused_iff_for}
use Rattle.sheet.proofs.Promised.{read_whole, read_promised_for}
use Rattle.sheet.proofs.Tables.{table_length}
use Rattle.sheet.proofs.Unrefused.{legal_header}
use Rattle.sheet.specs.Short.{short_turns, short_sheet, read_short_of, AcceptedShort, FirstShortCause, ReadAlike}
use Rattle.refusal.specs.Words.{only, before, behind}

-- ---- any two kinds

read_alike : (J K : Kind) (s a b : List ℕ) → (read_for J s a).answer.refusal ≡ 0 → (read_for K s b).answer.refusal ≡ 0 → ReadAlike (read_for J s a) (read_for K s b) a b
read_alike J K s a b e f =
    let n = table_length s in
    let front : (lent : List ℕ) → take (row_numbers * turn_count s) (at_front (table_of s) lent) ≡ table_of s = λ lent. take_at (table_of s) _ (row_numbers * turn_count s) n in
    let behind : (lent : List ℕ) → drop (row_numbers * turn_count s) (at_front (table_of s) lent) ≡ drop (row_numbers * turn_count s) lent =
    λ lent. drop_at (table_of s) _ (row_numbers * turn_count s) n ∙ ap (λ (k : ℕ). drop k lent) n in
    rw (read_whole J s a e, read_whole K s b f) (record { one_answer = refl; same_rows = front a ∙ sym (front b); first_behind = behind a; second_behind = behind b })

-- ---- any two limits

module _ (K : Kind) (m x n y : ℕ) (s : List ℕ) where
  pub within_both : turn_count s ≤ m → turn_count s ≤ n → (lent : List ℕ) → read_for (with_turns K m x) s lent ≡ read_for (with_turns K n y) s lent
  unfolding with_turns
  within_both h k lent = same_reading (with_turns K n y) m x s k h lent

  -- what a reader accepts has no more turns than its limit
  few_accepted : (k z : ℕ) → Sound (with_turns K k z) → (lent : List ℕ) → (read_for (with_turns K k z) s lent).answer.refusal ≡ 0 → turn_count s ≤ k
  unfolding with_turns read_causes_for
  few_accepted k z sound lent e =
      let clear = clear_append (causes_for (with_turns K k z) s) _ (causes_numbered (with_turns K k z) sound.numbers s) (sym (read_number_for (with_turns K k z) s lent) ∙ e) in
      (legal_header (with_turns K k z) sound s clear.0).turns_to

  -- a sheet that neither refuses, each with a lent table of its own, gives one answer and the same turns in both
  pub both_alike : (a b : List ℕ) → (read_for (with_turns K m x) s a).answer.refusal ≡ 0 → (read_for (with_turns K n y) s b).answer.refusal ≡ 0
      → ReadAlike (read_for (with_turns K m x) s a) (read_for (with_turns K n y) s b) a b
  both_alike = read_alike (with_turns K m x) (with_turns K n y) s

  -- what the smaller accepts the larger accepts
  pub smaller_larger : Sound (with_turns K m x) → m ≤ n → (lent : List ℕ) → (read_for (with_turns K m x) s lent).answer.refusal ≡ 0 → (read_for (with_turns K n y) s lent).answer.refusal ≡ 0
  smaller_larger a l lent e =
      let few : turn_count s ≤ m = few_accepted m x a lent e in
      rw (within_both few (omega arith) lent) at e

-- ---- the short kind

pub short_sheet_sound : Sound short_sheet
unfolding short_sheet with_turns
short_sheet_sound =
    record {
      mark = shift_sheet_sound.mark;
      groomers = shift_sheet_sound.groomers;
      slopes = shift_sheet_sound.slopes;
      turns = omega arith;
      numbers = record { counts = shift_sheet_sound.numbers.counts; turns = omega arith; slope = shift_sheet_sound.numbers.slope; groomer = shift_sheet_sound.numbers.groomer };
    }

-- what the code puts together from a shift's kind
pub short_made : {K : Kind} → K ≡ shift_sheet → ◌≡◌ {A = Kind}
    (record {
      mark = K.mark;
      most = record { groomers = K.most.groomers; slopes = K.most.slopes; turns = short_turns };
      maps = K.maps;
      refusals = record { counts = K.refusals.counts; turns = too_many_for_short; slope = K.refusals.slope; groomer = K.refusals.groomer };
    })
    short_sheet
unfolding short_sheet with_turns
short_made e = rw e

pub ruleset short_cases = (short_made)

pub short_sheet_given : {K : Kind} → K ≡ short_sheet → Sound K
short_sheet_given e = rw e short_sheet_sound

pub read_given : (s lent : List ℕ) {K : Kind} {o : Reading} → K ≡ short_sheet → o ≡ read_for K s lent → o ≡ read_short_of s lent
unfolding read_short_of
read_given s lent e f = rw (← e) f

pub ruleset short_read_cases = (short_sheet_given, read_given)

-- ---- its refusals and what it accepts

pub short_refused_iff : (s lent : List ℕ) (k : ℕ) → (k ≡ 0 → ⊥) → ((read_short_of s lent).answer.refusal ≡ k) ↔ FirstShortCause s (length lent) k
unfolding read_short_of
short_refused_iff = read_refused_iff_for short_sheet short_sheet_sound

pub short_accepted_iff : {s : List ℕ} → Bytes s → (lent : List ℕ) → ((read_short_of s lent).answer.refusal ≡ 0) ↔ (AcceptedShort s × (row_numbers * turn_count s ≤ length lent))
unfolding read_short_of
short_accepted_iff b = read_accepted_iff_for short_sheet short_sheet_sound b

-- what it hands back is what is promised of every reader
pub short_promised : {s : List ℕ} → Bytes s → (lent : List ℕ) → ReadPromisedFor short_sheet s lent (read_short_of s lent)
unfolding read_short_of
short_promised b lent = read_promised_for short_sheet short_sheet_sound b lent

-- a shift's number for too many turns is none of its causes
not_shift_number : (s : List ℕ) (places k r : ℕ) → ReadCauseFor short_sheet s places k r → k ≢ too_many_turns
unfolding short_sheet with_turns shift_sheet
not_shift_number s places k r (before (short_header h)) e = omega arith
not_shift_number s places k r (before (other_mark h)) e = omega arith
not_shift_number s places k r (before (groomer_count h)) e = omega arith
not_shift_number s places k r (before (slope_count h)) e = omega arith
not_shift_number s places k r (before (turn_count_cause h)) e = omega arith
not_shift_number s places k r (before (no_map i l h)) e = omega arith
not_shift_number s places k r (before (wrong_map i l h)) e = omega arith
not_shift_number s places k r (before (short_fields i l h)) e = omega arith
not_shift_number s places k r (before (slope i l h)) e = omega arith
not_shift_number s places k r (before (groomer i l h)) e = omega arith
not_shift_number s places k r (before (time i l h)) e = omega arith
not_shift_number s places k r (before (worth i l h)) e = omega arith
not_shift_number s places k r (before (driver i l h)) e = omega arith
not_shift_number s places k r (before (bytes_behind h)) e = omega arith
not_shift_number s places k r (behind (only h)) e = omega arith

pub never_shift_number : (s lent : List ℕ) → (read_short_of s lent).answer.refusal ≢ too_many_turns
never_shift_number s lent e = let f = (short_refused_iff s lent too_many_turns (λ z. omega arith)).0 e in not_shift_number s (length lent) too_many_turns f.place f.cause refl

-- ---- beside a shift's reader

pub short_within : (s : List ℕ) → turn_count s ≤ short_turns → (lent : List ℕ) → read_short_of s lent ≡ read_of s lent
unfolding read_short_of read_of short_sheet with_turns shift_sheet
short_within s h lent = within_both shift_sheet short_turns too_many_for_short most_turns too_many_turns s h (omega arith) lent

-- what it accepts has no more turns than it shows
short_few : (s lent : List ℕ) → (read_short_of s lent).answer.refusal ≡ 0 → turn_count s ≤ short_turns
unfolding read_short_of short_sheet with_turns read_causes_for
short_few s lent e = (legal_header (with_turns shift_sheet short_turns too_many_for_short) short_sheet_sound s (clear_append (causes_for short_sheet s) _ (causes_numbered short_sheet short_sheet_sound.numbers s) (sym (read_number_for short_sheet s lent) ∙ e)).0).turns_to

-- what neither reader refuses, each with a lent table of its own, gives one answer and the same turns in both
pub short_alike : (s a b : List ℕ) → (read_short_of s a).answer.refusal ≡ 0 → (read_of s b).answer.refusal ≡ 0 → ReadAlike (read_short_of s a) (read_of s b) a b
unfolding read_short_of read_of
short_alike s a b e f = read_alike short_sheet shift_sheet s a b e f

-- what the short reader accepts gets the same answer and table from a shift's with the same lent table, and so is accepted there too
pub short_same : (s lent : List ℕ) → (read_short_of s lent).answer.refusal ≡ 0 → read_short_of s lent ≡ read_of s lent
short_same s lent e = short_within s (short_few s lent e) lent

pub short_shift_sheet : (s lent : List ℕ) → (read_short_of s lent).answer.refusal ≡ 0 → (read_of s lent).answer.refusal ≡ 0
short_shift_sheet s lent e = rw (short_same s lent e) at e
