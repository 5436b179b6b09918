-- What holds of every sheet that is not refused, for all lists of numbers. Assumes nothing.
use Prim.Native.Nat.{ℕ, ◌+◌, ◌<◌, ◌≤◌}
use mathlib.Core.Path.{◌≡◌}
use mathlib.Core.Logic.{inl, inr}
use mathlib.Core.List.{List}
use native.Mathlib.Omega.{arith}
use native.Mathlib.Decide.{dec_lt, ℕ_discrete}
use Rattle.refusal.specs.Cause.{first_of}
use Rattle.refusal.proofs.Order.{none_given, clear_append}
use Rattle.turn.specs.Turn.{turn_in, InRange, shift_minutes, most_worth, most_driver}
use Rattle.sheet.specs.Kind.{Kind, most_groomers, most_slopes, most_turns, shift_sheet, Sound}
use Rattle.sheet.specs.Read.{counts_in, turn_count, header_causes, causes_for, sheet_causes, table_of}
use Rattle.sheet.specs.Accepted.{Legal, CauseFor, slope, groomer, time, worth, driver, turn_of, Outside}
use Rattle.sheet.proofs.SoundKinds.{shift_sheet_sound}
use Rattle.sheet.proofs.Headers.{header_numbered, header_fine}
use Rattle.sheet.proofs.Causes.{cause_there_for}
use Rattle.sheet.proofs.Readings.{causes_numbered}
use Rattle.sheet.proofs.Tables.{table_row}

inside : (x top : ℕ) → (Outside x top → ⊥) → (1 ≤ x) × (x ≤ top)
inside x top n = go (ℕ_discrete x 0) (dec_lt top x)
  where
    go : Dec (x ≡ 0) → Dec (top < x) → (1 ≤ x) × (x ≤ top)
    go (yes e) d = absurd (n (inl e))
    go (no e) (yes l) = absurd (n (inr l))
    go (no e) (no l) = (omega arith, omega arith)

module _ (K : Kind) (sound : Sound K) (s : List ℕ) (e : first_of (causes_for K s) ≡ 0) where
  pub legal_header : Legal K (counts_in s) (turn_count s)
  unfolding causes_for
  legal_header = (header_fine K sound.numbers s (clear_append (header_causes K s) _ (header_numbered K sound.numbers s) e).0).legal

  no_cause : {k r : ℕ} → CauseFor K s k r → ⊥
  no_cause {k} {r} c = none_given (causes_for K s) e (causes_numbered K sound.numbers s) k r (cause_there_for K sound.mark s c)

  pub turn_in_range : (i : ℕ) → i < turn_count s → InRange (counts_in s) (turn_of s i)
  turn_in_range i h =
      let a = inside (turn_of s i).slope (counts_in s).slopes (λ o. no_cause (slope i h o)) in
      let b = inside (turn_of s i).groomer (counts_in s).groomers (λ o. no_cause (groomer i h o)) in
      let c = timely (ℕ_discrete (turn_of s i).length 0) (dec_lt shift_minutes ((turn_of s i).start + (turn_of s i).length)) in
      let d = inside (turn_of s i).worth most_worth (λ o. no_cause (worth i h o)) in
      let f = few (dec_lt most_driver (turn_of s i).driver) in
      record { slope_from = a.0; slope_to = a.1; groomer_from = b.0; groomer_to = b.1; length_from = c.0; end_to = c.1; worth_from = d.0; worth_to = d.1; driver_to = f }
    where
      timely : Dec ((turn_of s i).length ≡ 0) → Dec (shift_minutes < (turn_of s i).start + (turn_of s i).length) → (1 ≤ (turn_of s i).length) × ((turn_of s i).start + (turn_of s i).length ≤ shift_minutes)
      timely (yes z) d = absurd (no_cause (time i h (inl z)))
      timely (no z) (yes l) = absurd (no_cause (time i h (inr l)))
      timely (no z) (no l) = (omega arith, omega arith)

      few : Dec (most_driver < (turn_of s i).driver) → (turn_of s i).driver ≤ most_driver
      few (yes l) = absurd (no_cause (driver i h l))
      few (no l) = omega arith

  pub row_in_range_for : (i : ℕ) → i < turn_count s → InRange (counts_in s) (turn_in (table_of s) i)
  row_in_range_for i h = rw (table_row s i h) (turn_in_range i h)

-- ---- a shift's sheet

module _ (s : List ℕ) (e : first_of (sheet_causes s) ≡ 0) where
  pub few_groomers : (counts_in s).groomers ≤ most_groomers
  unfolding sheet_causes shift_sheet
  few_groomers = (legal_header shift_sheet shift_sheet_sound s e).groomers_to

  pub few_slopes : (counts_in s).slopes ≤ most_slopes
  unfolding sheet_causes shift_sheet
  few_slopes = (legal_header shift_sheet shift_sheet_sound s e).slopes_to

  pub few_turns : turn_count s ≤ most_turns
  unfolding sheet_causes shift_sheet
  few_turns = (legal_header shift_sheet shift_sheet_sound s e).turns_to
