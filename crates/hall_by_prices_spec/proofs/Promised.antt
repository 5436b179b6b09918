-- What the limit's entry promises, where it refuses nothing. Assumes nothing.
use Prim.Native.Nat.{ℕ, ◌+◌, ◌≤◌, ◌<◌}
use mathlib.Core.Path.{◌≡◌, ap, ◌∙◌}
use mathlib.Core.List.{List}
use native.Mathlib.Omega.{arith}
use Rattle.refusal.specs.Cause.{first_of}
use Rattle.lists.specs.Lists.{sum_over, below}
use Rattle.sheet.specs.Read.{counts_in, turn_count, causes_for}
use Rattle.instance_spec.proofs.SheetTurns.{sheet_count_for, sheet_slopes_for}
use Rattle.charge_spec.specs.Hall.{hall_gap, window_count, vehicle}
use Rattle.limit_spec.specs.declared.LimitAnswer.{LimitAnswer}
use Rattle.charge_spec.specs.Charge.{charging_sheet, hall_of}
use Rattle.charge_spec.proofs.ChargingSheets.{charging_sound}
use Rattle.hall_by_prices_spec.specs.Prices.{richest_of, hall_limit}
use Rattle.hall_by_prices_spec.specs.Limit.{sheet_hall_limit, charge_limit_of}
use Rattle.hall_by_prices_spec.specs.Promises.{ChargeLimitPromised}
use Rattle.hall_by_prices_spec.proofs.HallLimits.{vehicle_most, within_hall_limit, free_hall_limit}
use Rattle.hall_by_prices_spec.proofs.LimitCauses.{charge_limit_clear, charge_limit_is}

-- ---- the hall of a sheet that is not refused

module _ (s : List ℕ) (z : first_of (causes_for charging_sheet s) ≡ 0) where
  pub window_count_lem : window_count (hall_of s) ≡ turn_count s
  unfolding hall_of
  window_count_lem = sheet_count_for charging_sheet charging_sound hall_gap s z

  -- vehicles are numbered from 1
  pub vehicle_numbers : (t : ℕ) → t < window_count (hall_of s) → (1 ≤ vehicle (hall_of s) t) × (vehicle (hall_of s) t ≤ (counts_in s).slopes)
  unfolding hall_of
  vehicle_numbers t l = sheet_slopes_for charging_sheet charging_sound hall_gap s z t (omega (arith, window_count_lem))

module _ (s prices : List ℕ) (e : (charge_limit_of s prices).refusal ≡ 0) where
  sound : first_of (causes_for charging_sheet s) ≡ 0
  sound = (charge_limit_clear s prices e).0

  given : (charge_limit_of s prices).limit ≡ hall_limit (hall_of s) (counts_in s).slopes prices
  unfolding sheet_hall_limit
  given = ap (λ (x : LimitAnswer). x.limit) (charge_limit_is s prices sound (charge_limit_clear s prices e).1)

  -- every answer that refuses nothing
  pub charge_limit_promised : ChargeLimitPromised s prices
  unfolding hall_limit
  charge_limit_promised =
      record {
        within = λ R a. rw given (within_hall_limit (hall_of s) prices (counts_in s).slopes (vehicle_numbers s sound) R a);
        parts = given;
        vehicle_most = vehicle_most (hall_of s) prices;
        free = λ f.
            given ∙ free_hall_limit (hall_of s) prices f (counts_in s).slopes
            ∙ ap (λ (n : ℕ). sum_over (λ k. (richest_of (hall_of s) (hall_of s).windows.worth (k + 1) n).worth) (below (counts_in s).slopes)) (window_count_lem s sound);
      }
