-- The entry's number: exactly the first cause in the order gives it, and 0 is given exactly where there is none; what it answers then, and what its plan promises. Assumes nothing.
use Prim.Native.Nat.{ℕ, zero, suc, ◌+◌, ◌/◌, ◌%◌, ◌≤◌, ◌<◌}
use mathlib.Core.Path.{◌≡◌, refl, sym, ◌∙◌}
use mathlib.Core.List.{List}
use mathlib.Core.Logic.{◌↔◌, ◌≢◌, inl}
use native.Mathlib.Omega.{arith}
use native.Mathlib.Decide.{dec_lt}
use lib.ListN.{length}
use Rattle.refusal.specs.Number.{bad_groomer, bad_driver}
use Rattle.refusal.specs.Cause.{first_of}
use Rattle.wire.specs.Number.{Bytes}
use Rattle.turn.specs.declared.Turn.{Turn}
use Rattle.sheet.specs.Kind.{first_map}
use Rattle.sheet.specs.Record.{field, turn_from, turn_at, cursor_after, first_cursor}
use Rattle.sheet.specs.Read.{turn_count, causes_for}
use Rattle.sheet.specs.Accepted.{cursor_of, turn_of, record_map, place_of, short_header, other_mark, groomer_count, slope_count, turn_count_cause, no_map, wrong_map, short_fields, slope, groomer, time, worth, driver, bytes_behind}
use Rattle.sheet.proofs.Readings.{causes_numbered}
use Rattle.sheet.proofs.Accepting.{lent_accepted_iff_for}
use Rattle.sheet.proofs.ReadCauses.{lent_tell_for}
use Rattle.choice_map.specs.Choice.{map_bytes}
use Rattle.instance_spec.proofs.SheetTurns.{sheet_count_for, sheet_lengths_for}
use Rattle.charge_spec.specs.Hall.{hall_gap, HallInRange}
use Rattle.charge_spec.specs.Promises.{HallPromises}
use Rattle.charge_spec.proofs.Halls.{hall_promises}
use Rattle.charge_spec.specs.Charge.{charging_sheet, hall_of, charge_causes, hall_found, charge_of, AcceptedCharging, ChargeCause, FirstChargeCause, Charged, charge_refused}
use Rattle.charge_spec.proofs.ChargingSheets.{charging_sound, units_of, draw_of_lem}
use Rattle.refusal.specs.Outcome.{beside}
use Rattle.refusal.specs.Words.{only, before, behind}
use Rattle.refusal.proofs.Outcome.{number_first, number_iff, number_refused, unless_none, enough_iff}

pub charge_number : (s lent : List ℕ) → (charge_of s lent).answer.refusal ≡ first_of (charge_causes s (length lent))
unfolding charge_of
charge_number s lent = number_first (charge_causes s (length lent)) _ _ (λ (o : Charged). o.answer.refusal) refl (λ k. refl)

-- the entry refuses with k exactly where the first cause has number k
pub charge_refused_iff : (s lent : List ℕ) (k : ℕ) → (k ≡ 0 → ⊥) → ((charge_of s lent).answer.refusal ≡ k) ↔ FirstChargeCause s (length lent) k
unfolding charge_of charge_causes
charge_refused_iff s lent =
    number_iff (charge_causes s (length lent)) _ _ (λ (o : Charged). o.answer.refusal) refl (λ k. refl) (lent_tell_for charging_sheet charging_sound s (map_bytes (turn_count s)) (length lent))

-- ---- where nothing is refused

module _ (s lent : List ℕ) (e : (charge_of s lent).answer.refusal ≡ 0) where
  clear : first_of (charge_causes s (length lent)) ≡ 0
  clear = sym (charge_number s lent) ∙ e

  pub charge_accepted : (first_of (causes_for charging_sheet s) ≡ 0) × (map_bytes (turn_count s) ≤ length lent)
  unfolding charge_causes
  charge_accepted = (enough_iff (causes_for charging_sheet s) (length lent) (map_bytes (turn_count s)) (causes_numbered charging_sheet charging_sound.numbers s)).0 clear

  -- the answer is the plan of the sheet's hall
  pub charge_answers : charge_of s lent ≡ hall_found (hall_of s) lent
  unfolding charge_of
  charge_answers = unless_none (charge_causes s (length lent)) _ _ clear

  -- whose windows are in range
  pub charge_in_range : HallInRange (hall_of s)
  unfolding hall_of
  charge_in_range =
      let z = charge_accepted.0 in
      let n = sheet_count_for charging_sheet charging_sound hall_gap s z in
      record {
        supplied = omega (arith, units_of s z);
        lengths = sheet_lengths_for charging_sheet charging_sound hall_gap s z;
        draws_from = λ t l. (draw_of_lem s z t (omega (arith, n))).0;
        draws_to = λ t l. (draw_of_lem s z t (omega (arith, n))).1;
      }

  -- and whose plan keeps the promises
  pub charge_promises : HallPromises (hall_of s)
  charge_promises = hall_promises (hall_of s) charge_in_range

-- a refusal leaves the lent bytes as they were, and gives no worth
pub charge_unchanged : (s lent : List ℕ) → ((charge_of s lent).answer.refusal ≡ 0 → ⊥) → charge_of s lent ≡ beside (charge_refused (charge_of s lent).answer.refusal) lent
unfolding charge_of
charge_unchanged s lent = number_refused (charge_causes s (length lent)) _ _ (λ (o : Charged). o.answer.refusal) refl (λ k. refl)

-- nothing is refused just if the sheet is accepted and the lent bytes hold a bit for each window
pub charge_accepted_iff : {s : List ℕ} → Bytes s → (lent : List ℕ) → ((charge_of s lent).answer.refusal ≡ 0) ↔ (AcceptedCharging s × (map_bytes (turn_count s) ≤ length lent))
unfolding charge_causes
charge_accepted_iff {s} b lent = lent_accepted_iff_for charging_sheet charging_sound b (map_bytes (turn_count s)) (length lent) (charge_number s lent)

-- ---- numbers that are never given

-- a shift's number for a groomer is none of its causes
not_groomer : (s : List ℕ) (places k r : ℕ) → ChargeCause s places k r → k ≢ bad_groomer
unfolding charging_sheet
not_groomer s places k r (before (short_header h)) e = omega arith
not_groomer s places k r (before (other_mark h)) e = omega arith
not_groomer s places k r (before (groomer_count h)) e = omega arith
not_groomer s places k r (before (slope_count h)) e = omega arith
not_groomer s places k r (before (turn_count_cause h)) e = omega arith
not_groomer s places k r (before (no_map i l h)) e = omega arith
not_groomer s places k r (before (wrong_map i l h)) e = omega arith
not_groomer s places k r (before (short_fields i l h)) e = omega arith
not_groomer s places k r (before (slope i l h)) e = omega arith
not_groomer s places k r (before (groomer i l h)) e = omega arith
not_groomer s places k r (before (time i l h)) e = omega arith
not_groomer s places k r (before (worth i l h)) e = omega arith
not_groomer s places k r (before (driver i l h)) e = omega arith
not_groomer s places k r (before (bytes_behind h)) e = omega arith
not_groomer s places k r (behind (only h)) e = omega arith

pub never_groomer : (s lent : List ℕ) → (charge_of s lent).answer.refusal ≢ bad_groomer
never_groomer s lent e = let f = (charge_refused_iff s lent bad_groomer (λ z. omega arith)).0 e in not_groomer s (length lent) bad_groomer f.place f.cause refl

-- a turn whose map, and whose map before it, are without the driver has none
no_driver : (s : List ℕ) (at m : ℕ) (old : Turn) → m ≤ first_map → (turn_from s at m old).driver ≡ old.driver
unfolding turn_from field
no_driver s at m old h = let q : m / 32 % 2 ≡ 0 = omega arith in rw q

driverless : (s : List ℕ) (i : ℕ) → ((k : ℕ) → k < i → record_map s k ≤ first_map) → (cursor_of s i).prev.driver ≡ 0
unfolding cursor_of first_cursor cursor_after turn_at
driverless s zero h = refl
driverless s (suc i) h = no_driver s ((cursor_of s i).at + 1) (record_map s i) (cursor_of s i).prev (h i (omega arith)) ∙ driverless s i (λ k l. h k (omega arith))

turn_driverless : (s : List ℕ) (i : ℕ) → ((k : ℕ) → k < suc i → record_map s k ≤ first_map) → (turn_of s i).driver ≡ 0
unfolding turn_at
turn_driverless s i h = no_driver s ((cursor_of s i).at + 1) (record_map s i) (cursor_of s i).prev (h i (omega arith)) ∙ driverless s i (λ k l. h k (omega arith))

-- where a driver would be a cause, a map with it came before
not_driver : (s : List ℕ) (places k r : ℕ) → ChargeCause s places k r → ((j p : ℕ) → p < r → ChargeCause s places j p → ⊥) → k ≢ bad_driver
unfolding charging_sheet
not_driver s places k r (before (short_header h)) n e = omega arith
not_driver s places k r (before (other_mark h)) n e = omega arith
not_driver s places k r (before (groomer_count h)) n e = omega arith
not_driver s places k r (before (slope_count h)) n e = omega arith
not_driver s places k r (before (turn_count_cause h)) n e = omega arith
not_driver s places k r (before (no_map i l h)) n e = omega arith
not_driver s places k r (before (wrong_map i l h)) n e = omega arith
not_driver s places k r (before (short_fields i l h)) n e = omega arith
not_driver s places k r (before (slope i l h)) n e = omega arith
not_driver s places k r (before (groomer i l h)) n e = omega arith
not_driver s places k r (before (time i l h)) n e = omega arith
not_driver s places k r (before (worth i l h)) n e = omega arith
not_driver s places k r (before (driver i l h)) n e = omega (arith, turn_driverless s i (λ j q. small j q (dec_lt first_map (record_map s j))))
  where
    small : (j : ℕ) → j < suc i → Dec (first_map < record_map s j) → record_map s j ≤ first_map
    small j q (yes d) = absurd (n 5 (place_of j 1) (omega arith) (before (wrong_map j (omega arith) (inl d))))
    small j q (no d) = omega arith
not_driver s places k r (before (bytes_behind h)) n e = omega arith
not_driver s places k r (behind (only h)) n e = omega arith

pub never_driver : (s lent : List ℕ) → (charge_of s lent).answer.refusal ≢ bad_driver
never_driver s lent e = let f = (charge_refused_iff s lent bad_driver (λ z. omega arith)).0 e in not_driver s (length lent) bad_driver f.place f.cause f.none_before refl
