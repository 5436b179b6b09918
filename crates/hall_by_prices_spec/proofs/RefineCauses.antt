-- The number of the rounds' entry: exactly the first cause in the order gives it, and 0 is given exactly where there is none; what it answers then. Assumes nothing.
use Prim.Native.Nat.{ℕ, ◌≤◌, ◌<◌}
use mathlib.Core.Path.{◌≡◌, refl, sym, ◌∙◌}
use mathlib.Core.List.{List}
use mathlib.Core.Logic.{◌↔◌, ⊎_elim, ◌⊎◌, inl, inr}
use mathlib.Core.Bool.{Bool, true, ◌||◌}
use lib.Dec.{ltb}
use lib.ListN.{length}
use Rattle.refine_spec.proofs.RefineCauses.{few_iff, clear_both}
use Rattle.refusal.specs.Number.{buffer_too_small}
use Rattle.refusal.specs.Cause.{first_of}
use Rattle.refusal.proofs.Outcome.{number_first, number_iff, number_refused, unless_none}
use Rattle.wire.specs.Number.{Bytes}
use Rattle.turn.specs.Turn.{shift_minutes}
use Rattle.sheet.specs.Read.{counts_in, turn_count, causes_for}
use Rattle.sheet.proofs.Readings.{causes_numbered}
use Rattle.sheet.proofs.Accepting.{accepted_iff_for}
use Rattle.sheet.proofs.ReadCauses.{more_tell_for}
use Rattle.choice_map.specs.Choice.{map_bytes}
use Rattle.charge_spec.specs.Charge.{charging_sheet, hall_of, AcceptedCharging}
use Rattle.charge_spec.proofs.ChargingSheets.{charging_sound}
use Rattle.hall_by_prices_spec.specs.Hall.{hall_refined}
use Rattle.hall_by_prices_spec.specs.Refine.{ChargeRefinement, charge_refine_causes, charge_refinement, not_charge_refined, charge_refine_of, HallPlacesFail, few_bytes, few_prices, FirstChargeRefineCause}

-- ---- the test of the lent places, and its words

module _ (s : List ℕ) (bytes numbers : ℕ) where
  -- too few lent bytes for the map, or too few lent numbers for the price list
  abbrev pub short : Bool
  short = ltb bytes (map_bytes (turn_count s)) || ltb numbers shift_minutes

  either : HallPlacesFail s bytes numbers → (bytes < map_bytes (turn_count s)) ⊎ (numbers < shift_minutes)
  either (few_bytes h) = inl h
  either (few_prices h) = inr h

  pub places_iff : (short ≡ true) ↔ HallPlacesFail s bytes numbers
  places_iff = let w = few_iff bytes (map_bytes (turn_count s)) numbers shift_minutes in (λ e. ⊎_elim few_bytes few_prices (w.0 e), λ f. w.1 (either f))

  -- no cause is there just if the sheet is not refused, and there are lent bytes and lent numbers enough
  pub clear_iff : (first_of (charge_refine_causes s bytes numbers) ≡ 0) ↔ ((first_of (causes_for charging_sheet s) ≡ 0) × (map_bytes (turn_count s) ≤ bytes) × (shift_minutes ≤ numbers))
  unfolding charge_refine_causes
  clear_iff =
      clear_both (causes_for charging_sheet s) bytes (map_bytes (turn_count s)) numbers shift_minutes
      (causes_numbered charging_sheet charging_sound.numbers s)

module _ (s : List ℕ) (rounds : ℕ) (map prices : List ℕ) where
  -- what the rounds came to
  abbrev result : ChargeRefinement
  result = charge_refinement (hall_refined (hall_of s) (counts_in s).slopes rounds) map prices

  pub charge_refine_number : (charge_refine_of s rounds map prices).refusal ≡ first_of (charge_refine_causes s (length map) (length prices))
  unfolding charge_refine_of charge_refinement
  charge_refine_number = number_first (charge_refine_causes s (length map) (length prices)) _ _ (λ (x : ChargeRefinement). x.refusal) refl (λ k. refl)

  -- the entry refuses with k exactly where the first cause has number k
  pub charge_refine_refused_iff : (k : ℕ) → (k ≡ 0 → ⊥) → ((charge_refine_of s rounds map prices).refusal ≡ k) ↔ FirstChargeRefineCause s (length map) (length prices) k
  unfolding charge_refine_of charge_refinement charge_refine_causes
  charge_refine_refused_iff =
      number_iff (charge_refine_causes s (length map) (length prices)) _ _ (λ (x : ChargeRefinement). x.refusal) refl (λ k. refl)
      (more_tell_for charging_sheet charging_sound s buffer_too_small (HallPlacesFail s (length map) (length prices)) (short s (length map) (length prices)) (places_iff s (length map) (length prices)) refl)

  -- where there is none, it answers with what the rounds came to
  pub charge_refine_answers : first_of (charge_refine_causes s (length map) (length prices)) ≡ 0 → charge_refine_of s rounds map prices ≡ result
  unfolding charge_refine_of
  charge_refine_answers e = unless_none (charge_refine_causes s (length map) (length prices)) result (λ k. not_charge_refined k map prices) e

  -- a refusal leaves all that is lent as it was, and gives no figures
  pub charge_refine_unchanged : ((charge_refine_of s rounds map prices).refusal ≡ 0 → ⊥) → charge_refine_of s rounds map prices ≡ not_charge_refined (charge_refine_of s rounds map prices).refusal map prices
  unfolding charge_refine_of charge_refinement
  charge_refine_unchanged = number_refused (charge_refine_causes s (length map) (length prices)) _ _ (λ (x : ChargeRefinement). x.refusal) refl (λ k. refl)

-- the entry refuses nothing just if the sheet is accepted, and there are lent bytes for the map and a lent number for each minute
pub charge_refine_accepted_iff : {s : List ℕ} → Bytes s → (rounds : ℕ) (map prices : List ℕ) →
    ((charge_refine_of s rounds map prices).refusal ≡ 0) ↔ (AcceptedCharging s × (map_bytes (turn_count s) ≤ length map) × (shift_minutes ≤ length prices))
charge_refine_accepted_iff {s} b rounds map prices = (
  λ e. let (z, l, m) = (clear_iff s (length map) (length prices)).0 (sym (charge_refine_number s rounds map prices) ∙ e) in ((accepted_iff_for charging_sheet charging_sound b).0 z, l, m),
  λ (a, l, m). charge_refine_number s rounds map prices ∙ (clear_iff s (length map) (length prices)).1 ((accepted_iff_for charging_sheet charging_sound b).1 a, l, m),
)
