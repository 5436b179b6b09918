-- The number of the limit's entry: exactly the first cause in the order gives it, and 0 is given exactly where there is none. Assumes nothing.
use Prim.Native.Nat.{ℕ}
use mathlib.Core.Path.{◌≡◌, refl, sym, ◌∙◌}
use mathlib.Core.List.{List}
use mathlib.Core.Logic.{◌↔◌, ◌≢◌}
use mathlib.Core.Bool.{not}
use lib.Dec.{eqb}
use lib.ListN.{length}
use Rattle.limit_spec.proofs.LimitCauses.{other_iff, clear_exact}
use Rattle.refusal.specs.Number.{bad_prices}
use Rattle.refusal.specs.Cause.{first_of}
use Rattle.refusal.proofs.Outcome.{number_first, number_iff, unless_none}
use Rattle.wire.specs.Number.{Bytes}
use Rattle.turn.specs.Turn.{shift_minutes}
use Rattle.sheet.specs.Read.{causes_for}
use Rattle.sheet.proofs.Readings.{causes_numbered}
use Rattle.sheet.proofs.Accepting.{accepted_iff_for}
use Rattle.sheet.proofs.ReadCauses.{more_tell_for}
use Rattle.limit_spec.specs.declared.LimitAnswer.{LimitAnswer}
use Rattle.limit_spec.specs.Limit.{limit_is, limit_refused}
use Rattle.charge_spec.specs.Charge.{charging_sheet, AcceptedCharging}
use Rattle.charge_spec.proofs.ChargingSheets.{charging_sound}
use Rattle.hall_by_prices_spec.specs.Limit.{charge_limit_causes, sheet_hall_limit, charge_limit_of, FirstChargeLimitCause}

module _ (s prices : List ℕ) where
  pub charge_limit_number : (charge_limit_of s prices).refusal ≡ first_of (charge_limit_causes s prices)
  unfolding charge_limit_of
  charge_limit_number = number_first (charge_limit_causes s prices) _ _ (λ (x : LimitAnswer). x.refusal) refl (λ k. refl)

  -- the entry refuses with k exactly where the first cause has number k
  pub charge_limit_refused_iff : (k : ℕ) → (k ≡ 0 → ⊥) → ((charge_limit_of s prices).refusal ≡ k) ↔ FirstChargeLimitCause s prices k
  unfolding charge_limit_of charge_limit_causes
  charge_limit_refused_iff =
      number_iff (charge_limit_causes s prices) _ _ (λ (x : LimitAnswer). x.refusal) refl (λ k. refl)
      (more_tell_for charging_sheet charging_sound s bad_prices (length prices ≢ shift_minutes) (not (eqb (length prices) shift_minutes)) (other_iff (length prices) shift_minutes) refl)

  -- no cause is there just if the sheet is not refused, and the list has the right length
  clear_iff : (first_of (charge_limit_causes s prices) ≡ 0) ↔ ((first_of (causes_for charging_sheet s) ≡ 0) × (length prices ≡ shift_minutes))
  unfolding charge_limit_causes
  clear_iff = clear_exact (causes_for charging_sheet s) (length prices) shift_minutes (causes_numbered charging_sheet charging_sound.numbers s)

  pub charge_limit_clear : (charge_limit_of s prices).refusal ≡ 0 → (first_of (causes_for charging_sheet s) ≡ 0) × (length prices ≡ shift_minutes)
  charge_limit_clear e = clear_iff.0 (sym charge_limit_number ∙ e)

  -- then the answer is the limit of the sheet's hall
  pub charge_limit_is : first_of (causes_for charging_sheet s) ≡ 0 → length prices ≡ shift_minutes → charge_limit_of s prices ≡ limit_is (sheet_hall_limit s prices)
  unfolding charge_limit_of
  charge_limit_is z l = unless_none (charge_limit_causes s prices) (limit_is (sheet_hall_limit s prices)) limit_refused (clear_iff.1 (z, l))

-- the entry refuses nothing just if the sheet is accepted and the list has a number for each minute
pub charge_limit_accepted_iff : {s : List ℕ} → Bytes s → (prices : List ℕ) → ((charge_limit_of s prices).refusal ≡ 0) ↔ (AcceptedCharging s × (length prices ≡ shift_minutes))
charge_limit_accepted_iff {s} b prices = (
  λ e. let (z, l) = charge_limit_clear s prices e in ((accepted_iff_for charging_sheet charging_sound b).0 z, l),
  λ (a, l). charge_limit_number s prices ∙ (clear_iff s prices).1 ((accepted_iff_for charging_sheet charging_sound b).1 a, l),
)
