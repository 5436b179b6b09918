-- What an entry with a lent buffer refuses: the sheet's causes in their order, and after them all a buffer that is too short. Assumes nothing.
use Prim.Native.Nat.{ℕ, zero, suc, ◌+◌, ◌*◌}
use mathlib.Core.Path.{◌≡◌, refl}
use mathlib.Core.List.{List, [], ◌∷◌, ◌++◌}
use mathlib.Core.Logic.{◌↔◌}
use native.Mathlib.Omega.{arith}
use lib.ListN.{length}
use Rattle.refusal.specs.Cause.{first_of, ◌when◌, FirstAmong}
use Rattle.turn.specs.declared.Counts.{Counts}
use Rattle.turn.specs.Turn.{row_numbers, turn_causes}
use Rattle.sheet.specs.declared.record.Cursor.{Cursor}
use Rattle.sheet.specs.Kind.{Kind, shift_sheet, Sound}
use Rattle.sheet.specs.Record.{cursor_after, first_cursor, record_causes}
use Rattle.sheet.specs.Read.{counts_in, turn_count, count_causes, header_causes, records_causes, causes_for, read_causes_for, read_for, sheet_causes, read_of, Reading}
use Rattle.sheet.specs.Accepted.{place_of, LentCauseFor, ReadCauseFor, LentCause, FirstReadCause, CauseFor, SheetCause, MoreCauseFor, MoreCause}
use Rattle.sheet.proofs.SoundKinds.{shift_sheet_sound}
use Rattle.sheet.proofs.Causes.{causes_iff_for}
use Rattle.refusal.specs.Outcome.{then_room}
use Rattle.refusal.proofs.Words.{Within, Tells, says_tells, says_within, room_tells, then_tells, only_tells, then_within, only_within}
use Rattle.refusal.proofs.Outcome.{number_first, number_iff}
use Rattle.sheet.proofs.Readings.{causes_numbered}
use Rattle.refusal.proofs.Order.{numbered}
use mathlib.Core.Bool.{Bool, true}

-- the reader's number is that of the first cause
pub read_number_for : (K : Kind) (s lent : List ℕ) → (read_for K s lent).answer.refusal ≡ first_of (read_causes_for K s (length lent))
unfolding read_for
read_number_for K s lent = number_first (read_causes_for K s (length lent)) _ _ (λ (o : Reading). o.answer.refusal) refl (λ k. refl)

records_places : (K : Kind) (n : ℕ) (s : List ℕ) (limits : Counts) (c : Cursor) → length (records_causes K n s limits c) ≡ 8 * n + 1
unfolding records_causes record_causes turn_causes
records_places K zero s limits c = refl
records_places K (suc n) s limits c = omega (arith, records_places K n s limits (cursor_after s c))

-- the place after the sheet's causes
pub sheet_places : (K : Kind) (s : List ℕ) → length (causes_for K s) ≡ place_of (turn_count s) 1
unfolding causes_for header_causes count_causes
sheet_places K s = omega (arith, records_places K (turn_count s) s (counts_in s) first_cursor)

-- ---- a sheet of any kind: its causes in words, and after them those of a lent buffer, once for every need

module _ (K : Kind) (sound : Sound K) (s : List ℕ) where
  pub causes_tell_for : Tells (CauseFor K s) (causes_for K s)
  causes_tell_for = says_tells (CauseFor K s) (causes_for K s) (causes_iff_for K sound.mark s) (causes_numbered K sound.numbers s)

  pub causes_within_for : Within (CauseFor K s) (place_of (turn_count s) 1)
  causes_within_for k r c = omega (arith, says_within (CauseFor K s) (causes_for K s) (causes_iff_for K sound.mark s) k r c, sheet_places K s)

  module _ (n : ℕ) (P : Type 0) (test : Bool) (iff : (test ≡ true) ↔ P) where
    pub more_tell_for : numbered (n when test ∷ []) ≡ true → Tells (MoreCauseFor K s n P) (causes_for K s ++ n when test ∷ [])
    more_tell_for z =
        then_tells (place_of (turn_count s) 1) causes_within_for (causes_for K s) (n when test ∷ []) (causes_numbered K sound.numbers s) causes_tell_for (λ e. only_tells n P test iff z)

  pub more_within_for : (n : ℕ) (P : Type 0) → Within (MoreCauseFor K s n P) (place_of (turn_count s) 2)
  more_within_for n P k r c = omega (arith, then_within (place_of (turn_count s) 1) causes_within_for 1 (only_within n P) k r c)

  pub lent_tell_for : (need places : ℕ) → Tells (LentCauseFor K s need places) (then_room (causes_for K s) need places)
  lent_tell_for = room_tells (place_of (turn_count s) 1) causes_within_for (causes_for K s) (causes_numbered K sound.numbers s) causes_tell_for

  -- the reader gives k exactly where the first cause has number k
  pub read_refused_iff_for : (lent : List ℕ) (k : ℕ) → (k ≡ 0 → ⊥) → ((read_for K s lent).answer.refusal ≡ k) ↔ FirstAmong (ReadCauseFor K s (length lent)) k
  unfolding read_for read_causes_for
  read_refused_iff_for lent =
      number_iff (read_causes_for K s (length lent)) _ _ (λ (o : Reading). o.answer.refusal) refl (λ k. refl) (lent_tell_for (row_numbers * turn_count s) (length lent))

-- ---- a shift's sheet

module _ (s : List ℕ) where
  pub sheet_tells : Tells (SheetCause s) (sheet_causes s)
  unfolding sheet_causes
  sheet_tells = causes_tell_for shift_sheet shift_sheet_sound s

  pub sheet_within : Within (SheetCause s) (place_of (turn_count s) 1)
  sheet_within = causes_within_for shift_sheet shift_sheet_sound s

  pub more_tell : (n : ℕ) (P : Type 0) (test : Bool) → (test ≡ true) ↔ P → numbered (n when test ∷ []) ≡ true → Tells (MoreCause s n P) (sheet_causes s ++ n when test ∷ [])
  unfolding sheet_causes
  more_tell = more_tell_for shift_sheet shift_sheet_sound s

  pub more_within : (n : ℕ) (P : Type 0) → Within (MoreCause s n P) (place_of (turn_count s) 2)
  more_within = more_within_for shift_sheet shift_sheet_sound s

  pub lent_tell : (need places : ℕ) → Tells (LentCause s need places) (then_room (sheet_causes s) need places)
  unfolding sheet_causes
  lent_tell = lent_tell_for shift_sheet shift_sheet_sound s

pub read_refused_iff : (s lent : List ℕ) (k : ℕ) → (k ≡ 0 → ⊥) → ((read_of s lent).answer.refusal ≡ k) ↔ FirstReadCause s (length lent) k
unfolding read_of
read_refused_iff = read_refused_iff_for shift_sheet shift_sheet_sound
