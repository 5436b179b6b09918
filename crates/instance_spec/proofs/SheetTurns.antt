-- The turns of a sheet that is not refused, as the model speaks of them: how many they are, and their ranges. Assumes nothing.
use mathlib.Core.Path.{◌≡◌, sym, ◌∙◌}
use mathlib.Core.Logic.{◌↔◌, ◌⊎◌, inl, inr}
use mathlib.Core.Bool.{true}
use mathlib.Core.List.{List}
use Prim.Native.Nat.{ℕ, ◌≤◌, ◌<◌}
use native.Mathlib.Omega.{arith}
use lib.ListN.{get_or}
use Rattle.refusal.specs.Cause.{first_of}
use Rattle.turn.specs.declared.Turn.{Turn}
use Rattle.turn.specs.Turn.{shift_minutes, most_worth, InRange, most_driver}
use Rattle.model.specs.Turns as model
use Rattle.model.specs.Turns.{Turns, PositiveLengths, OneDriver, Near, conflict}
use Rattle.model.proofs.Minutes.{conflict_near}
use Rattle.sheet.specs.Kind.{Kind, most_turns, shift_sheet, Sound}
use Rattle.sheet.specs.Read.{counts_in, turn_count, turns_of, causes_for, sheet_causes}
use Rattle.sheet.proofs.SoundKinds.{shift_sheet_sound}
use Rattle.sheet.proofs.Tables.{turns_length, turns_at, table_row}
use Rattle.sheet.proofs.Unrefused.{legal_header, row_in_range_for}
use Rattle.instance_spec.specs.Problem.{no_turn, problem_of, shift_gap, sheet_turns, TooClose, shared, after, before, SheetConflict, one_slope, one_groomer_way, one_driver_way}

-- ---- a sheet of any kind that is not refused, with any gap

module _ (K : Kind) (sound : Sound K) (gap : ℕ) (s : List ℕ) (z : first_of (causes_for K s) ≡ 0) where
  abbrev T : Turns
  T = problem_of gap (turns_of s)

  pub sheet_count_for : (problem_of gap (turns_of s)).count ≡ turn_count s
  unfolding problem_of
  sheet_count_for = turns_length s

  pub few_turns_for : turn_count s ≤ most_turns
  few_turns_for = omega (arith, (legal_header K sound s z).turns_to, sound.turns)

  abbrev turn : ℕ → Turn
  turn t = get_or (turns_of s) t no_turn

  pub sheet_range_for : (t : ℕ) → t < turn_count s → InRange (counts_in s) (turn t)
  sheet_range_for t h = rw (turns_at s no_turn t h ∙ sym (table_row s t h)) (row_in_range_for K sound s z t h)

  -- its turns are in range, as the model speaks of them
  pub sheet_starts_for : (t : ℕ) → t < turn_count s → T.start t < T.end t
  unfolding problem_of
  sheet_starts_for t h = omega (arith, (sheet_range_for t h).length_from)

  pub sheet_lengths_for : PositiveLengths T
  sheet_lengths_for t h = sheet_starts_for t (omega (arith, sheet_count_for))

  pub sheet_ends_for : (t : ℕ) → t < turn_count s → T.end t ≤ shift_minutes
  unfolding problem_of
  sheet_ends_for t h = (sheet_range_for t h).end_to

  pub sheet_worths_for : (t : ℕ) → t < turn_count s → T.worth t ≤ most_worth
  unfolding problem_of
  sheet_worths_for t h = (sheet_range_for t h).worth_to

  pub sheet_worths_from_for : (t : ℕ) → t < turn_count s → 1 ≤ T.worth t
  unfolding problem_of
  sheet_worths_from_for t h = (sheet_range_for t h).worth_from

  pub sheet_slopes_for : (t : ℕ) → t < turn_count s → (1 ≤ T.slope t) × (T.slope t ≤ (counts_in s).slopes)
  unfolding problem_of
  sheet_slopes_for t h = ((sheet_range_for t h).slope_from, (sheet_range_for t h).slope_to)

  pub sheet_groomers_for : (t : ℕ) → t < turn_count s → (1 ≤ T.groomer t) × (T.groomer t ≤ (counts_in s).groomers)
  unfolding problem_of
  sheet_groomers_for t h = ((sheet_range_for t h).groomer_from, (sheet_range_for t h).groomer_to)

  pub sheet_drivers_for : (t : ℕ) → t < turn_count s → T.driver t ≤ most_driver
  unfolding problem_of
  sheet_drivers_for t h = (sheet_range_for t h).driver_to

-- ---- a shift's sheet, with a shift's gap

module _ (s : List ℕ) (z : first_of (sheet_causes s) ≡ 0) where
  pub sheet_count : (sheet_turns s).count ≡ turn_count s
  unfolding sheet_turns sheet_causes
  sheet_count = sheet_count_for shift_sheet shift_sheet_sound shift_gap s z

  pub sheet_starts : (t : ℕ) → t < turn_count s → (sheet_turns s).start t < (sheet_turns s).end t
  unfolding sheet_turns sheet_causes
  sheet_starts = sheet_starts_for shift_sheet shift_sheet_sound shift_gap s z

  pub sheet_lengths : PositiveLengths (sheet_turns s)
  unfolding sheet_turns sheet_causes
  sheet_lengths = sheet_lengths_for shift_sheet shift_sheet_sound shift_gap s z

  pub sheet_ends : (t : ℕ) → t < turn_count s → (sheet_turns s).end t ≤ shift_minutes
  unfolding sheet_turns sheet_causes
  sheet_ends = sheet_ends_for shift_sheet shift_sheet_sound shift_gap s z

  pub sheet_worths : (t : ℕ) → t < turn_count s → (sheet_turns s).worth t ≤ most_worth
  unfolding sheet_turns sheet_causes
  sheet_worths = sheet_worths_for shift_sheet shift_sheet_sound shift_gap s z

  pub sheet_worths_from : (t : ℕ) → t < turn_count s → 1 ≤ (sheet_turns s).worth t
  unfolding sheet_turns sheet_causes
  sheet_worths_from = sheet_worths_from_for shift_sheet shift_sheet_sound shift_gap s z

  pub sheet_slopes : (t : ℕ) → t < turn_count s → (1 ≤ (sheet_turns s).slope t) × ((sheet_turns s).slope t ≤ (counts_in s).slopes)
  unfolding sheet_turns sheet_causes
  sheet_slopes = sheet_slopes_for shift_sheet shift_sheet_sound shift_gap s z

  pub sheet_groomers : (t : ℕ) → t < turn_count s → (1 ≤ (sheet_turns s).groomer t) × ((sheet_turns s).groomer t ≤ (counts_in s).groomers)
  unfolding sheet_turns sheet_causes
  sheet_groomers = sheet_groomers_for shift_sheet shift_sheet_sound shift_gap s z

  pub sheet_drivers : (t : ℕ) → t < turn_count s → (sheet_turns s).driver t ≤ most_driver
  unfolding sheet_turns sheet_causes
  sheet_drivers = sheet_drivers_for shift_sheet shift_sheet_sound shift_gap s z

  -- ---- when two of its turns conflict

  near_close : (x y : ℕ) → Near (sheet_turns s) x y → TooClose s x y
  unfolding sheet_turns problem_of
  near_close x y (model.shared m a b c d) = shared m a b c d
  near_close x y (model.after free l e) = after free (omega arith) e
  near_close x y (model.before free l e) = before free (omega arith) e

  close_near : (x y : ℕ) → TooClose s x y → Near (sheet_turns s) x y
  unfolding sheet_turns problem_of
  close_near x y (shared m a b c d) = model.shared m a b c d
  close_near x y (after free l e) = model.after free (omega arith) e
  close_near x y (before free l e) = model.before free (omega arith) e

  -- by groomer and by driver: where they are too close, and nowhere else
  pub sheet_conflict : (x y : ℕ) → x < turn_count s → y < turn_count s → conflict (sheet_turns s) x y ≡ true ↔ SheetConflict s x y
  sheet_conflict x y hx hy = (λ e. to (both.0 e), λ c. both.1 (from c))
    where
      both : conflict (sheet_turns s) x y ≡ true ↔ (((sheet_turns s).slope x ≡ (sheet_turns s).slope y) ⊎ ((((sheet_turns s).groomer x ≡ (sheet_turns s).groomer y) ⊎ OneDriver (sheet_turns s) x y) × Near (sheet_turns s) x y))
      both = conflict_near (sheet_turns s) sheet_lengths x y (omega (arith, sheet_count)) (omega (arith, sheet_count))

      to : ((sheet_turns s).slope x ≡ (sheet_turns s).slope y) ⊎ ((((sheet_turns s).groomer x ≡ (sheet_turns s).groomer y) ⊎ OneDriver (sheet_turns s) x y) × Near (sheet_turns s) x y) → SheetConflict s x y
      to (inl e) = one_slope e
      to (inr (inl e, n)) = one_groomer_way e (near_close x y n)
      to (inr (inr d, n)) = one_driver_way d (near_close x y n)

      from : SheetConflict s x y → ((sheet_turns s).slope x ≡ (sheet_turns s).slope y) ⊎ ((((sheet_turns s).groomer x ≡ (sheet_turns s).groomer y) ⊎ OneDriver (sheet_turns s) x y) × Near (sheet_turns s) x y)
      from (one_slope e) = inl e
      from (one_groomer_way e n) = inr (inl e, close_near x y n)
      from (one_driver_way d n) = inr (inr d, close_near x y n)
