-- What a step takes from a small window: rounding up, and how much it is at most. Assumes nothing.
use mathlib.Core.Path.{◌≡◌, refl}
use mathlib.Core.Bool.{Bool, true, false, cond}
use Prim.Native.Nat.{ℕ, ◌+◌, ◌-◌, ◌*◌, ◌≤◌, ◌<◌}
use native.Mathlib.Nat.{div-add-mod', mod-lt, mul-le-mul_right, lt_of_mul-lt-mul_left}
use native.Mathlib.Omega.{arith}
use Rattle.model.specs.Steps.{after_step_by}
use Rattle.model.proofs.Residuals.{taken_by}
use Rattle.model.proofs.Planned.{Taking, taking_by}
use Rattle.charge_spec.specs.Hall.{Hall, draw, same_vehicle, share_minute, is_small}
use Rattle.charge_spec.specs.Plan.{rounded_up, small_takes}
use Rattle.charge_spec.proofs.Windows.{is_vehicle, small_is}

pub up_most : (a b : ℕ) → 0 < b → b * rounded_up a b ≤ a + (b - 1)
unfolding rounded_up
up_most a b h = omega (arith, div-add-mod' (a + (b - 1)) b)

-- so many times b are not below a
pub up_least : (a b : ℕ) → 0 < b → a ≤ b * rounded_up a b
unfolding rounded_up
up_least a b h = omega (arith, div-add-mod' (a + (b - 1)) b, mod-lt (a + (b - 1)) h)

-- and no smaller number does: it is the least k of which b times k is not below a
pub up_below : (a b k : ℕ) → 0 < b → a ≤ b * k → rounded_up a b ≤ k
up_below a b k h l = let below : b * rounded_up a b < b * (k + 1) = omega (arith, up_most a b h) in omega (arith, lt_of_mul-lt-mul_left b below)

module _ (H : Hall) where
  pub takes_vehicle : (j amount t : ℕ) → same_vehicle H j t ≡ true → small_takes H j amount t ≡ amount
  unfolding small_takes
  takes_vehicle j amount t e = rw e

  -- at most the amount, from a small window
  pub takes_most : 0 < H.units → (j amount t : ℕ) → is_small H t ≡ true → small_takes H j amount t ≤ amount
  unfolding small_takes
  takes_most h j amount t e = go (same_vehicle H j t) (share_minute H j t)
    where
      portion : rounded_up (2 * draw H t * amount) H.units ≤ amount
      portion = up_below (2 * draw H t * amount) H.units amount h (omega (arith, mul-le-mul_right amount (small_is H t e)))

      go : (v m : Bool) → cond v amount (cond m (rounded_up (2 * draw H t * amount) H.units) 0) ≤ amount
      go true m = omega arith
      go false true = portion
      go false false = omega arith

  pub small_taking : Taking (after_step_by (small_takes H)) (taken_by (small_takes H))
  small_taking = taking_by (small_takes H) (λ j amount. takes_vehicle j amount j (is_vehicle H j j refl))
