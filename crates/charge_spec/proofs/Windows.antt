-- The laws of windows: one vehicle, a minute in common, what is drawn at a minute, wide and small; and what these are of the windows as one groomer's turns. Assumes nothing.
use mathlib.Core.Path.{◌≡◌, refl, sym}
use mathlib.Core.Bool.{Bool, true, false, cond}
use mathlib.Core.List.{List}
use Prim.Native.Nat.{ℕ, ◌+◌, ◌*◌, ◌≤◌, ◌<◌}
use native.Mathlib.Omega.{arith}
use lib.Dec.{ltb, leb}
use lib.IntN.{ℤ}
use borrow.Author.Tests.{ltb-true, ltb-false, lt-ltb, leb-true, le-leb, eqb-true, eq-eqb, not-true}
use Rattle.model.specs.Turns.{Turns, overlapping, conflict, PositiveLengths, NoDrivers}
use Rattle.model.specs.Steps.{Step, is_open}
use Rattle.model.specs.Rules.{Right}
use Rattle.lists.proofs.Bools.{and_1, and_2, and_of}
use Rattle.model.proofs.Conflicts
use Rattle.charge_spec.specs.Hall.{Hall, window_count, vehicle, draw, same_vehicle, share_minute, charges_at, draw_at, wide_draw, is_wide, is_small}
use Rattle.charge_spec.specs.Plan.{turns_among}

module _ (H : Hall) where
  pub vehicle_is : (x y : ℕ) → same_vehicle H x y ≡ true → vehicle H x ≡ vehicle H y
  unfolding same_vehicle
  vehicle_is x y e = eqb-true (vehicle H x) (vehicle H y) e

  pub is_vehicle : (x y : ℕ) → vehicle H x ≡ vehicle H y → same_vehicle H x y ≡ true
  unfolding same_vehicle
  is_vehicle x y e = eq-eqb (vehicle H x) (vehicle H y) e

  pub vehicle_sym : (x y : ℕ) → same_vehicle H x y ≡ true → same_vehicle H y x ≡ true
  vehicle_sym x y e = is_vehicle y x (sym (vehicle_is x y e))

  -- ---- minutes

  pub share_lt : (x y : ℕ) → share_minute H x y ≡ true → (H.windows.start x < H.windows.end y) × (H.windows.start y < H.windows.end x)
  unfolding share_minute overlapping
  share_lt x y e =
      let a = ltb-true (H.windows.start x) (H.windows.end y + 0) (and_1 (ltb (H.windows.start x) (H.windows.end y + 0)) (ltb (H.windows.start y) (H.windows.end x + 0)) e) in
      let b = ltb-true (H.windows.start y) (H.windows.end x + 0) (and_2 (ltb (H.windows.start x) (H.windows.end y + 0)) (ltb (H.windows.start y) (H.windows.end x + 0)) e) in
      (omega (arith, a), omega (arith, b))

  pub lt_share : (x y : ℕ) → H.windows.start x < H.windows.end y → H.windows.start y < H.windows.end x → share_minute H x y ≡ true
  unfolding share_minute overlapping
  lt_share x y a b =
      and_of (ltb (H.windows.start x) (H.windows.end y + 0)) (ltb (H.windows.start y) (H.windows.end x + 0))
      (lt-ltb (H.windows.start x) (H.windows.end y + 0) (omega arith)) (lt-ltb (H.windows.start y) (H.windows.end x + 0) (omega arith))

  pub charges_in : (minute t : ℕ) → charges_at H minute t ≡ true → (H.windows.start t ≤ minute) × (minute < H.windows.end t)
  unfolding charges_at
  charges_in minute t e = (
    leb-true (H.windows.start t) minute (and_1 (leb (H.windows.start t) minute) (ltb minute (H.windows.end t)) e),
    ltb-true minute (H.windows.end t) (and_2 (leb (H.windows.start t) minute) (ltb minute (H.windows.end t)) e),
  )

  pub in_charges : (minute t : ℕ) → H.windows.start t ≤ minute → minute < H.windows.end t → charges_at H minute t ≡ true
  unfolding charges_at
  in_charges minute t a b = and_of (leb (H.windows.start t) minute) (ltb minute (H.windows.end t)) (le-leb (H.windows.start t) minute a) (lt-ltb minute (H.windows.end t) b)

  -- two windows that charge at one minute share it
  pub charges_share : (minute x y : ℕ) → charges_at H minute x ≡ true → charges_at H minute y ≡ true → share_minute H x y ≡ true
  charges_share minute x y e f = lt_share x y (omega (arith, charges_in minute x e, charges_in minute y f)) (omega (arith, charges_in minute x e, charges_in minute y f))

  pub draw_at_charging : (minute t : ℕ) → charges_at H minute t ≡ true → draw_at H minute t ≡ draw H t
  unfolding draw_at
  draw_at_charging minute t e = rw e

  pub draw_at_not : (minute t : ℕ) → charges_at H minute t ≡ false → draw_at H minute t ≡ 0
  unfolding draw_at
  draw_at_not minute t e = rw e

  -- what draws at a minute charges then
  pub drawn_charging : (minute t : ℕ) → 0 < draw_at H minute t → charges_at H minute t ≡ true
  drawn_charging minute t h = go (charges_at H minute t) refl
    where
      go : (b : Bool) → charges_at H minute t ≡ b → b ≡ true
      go true e = refl
      go false e = absurd (omega (arith, draw_at_not minute t e))

  -- ---- the two kinds

  pub wide_is : (t : ℕ) → is_wide H t ≡ true → H.units < 2 * draw H t
  unfolding is_wide wide_draw
  wide_is t e = ltb-true H.units (2 * draw H t) e

  pub small_is : (t : ℕ) → is_small H t ≡ true → 2 * draw H t ≤ H.units
  unfolding is_small is_wide wide_draw
  small_is t e = ltb-false H.units (2 * draw H t) (not-true (ltb H.units (2 * draw H t)) e)

  -- ---- the windows of a kind as one groomer's turns

  module _ (kind : ℕ → Bool) where
    abbrev T : Turns
    T = turns_among H kind

    pub among_count : T.count ≡ window_count H
    unfolding turns_among
    among_count = refl

    pub among_worth : (t : ℕ) → T.worth t ≡ cond (kind t) (H.windows.worth t) 0
    unfolding turns_among
    among_worth t = refl

    pub among_drivers : NoDrivers T
    unfolding turns_among
    among_drivers t l = refl

    pub among_lengths : PositiveLengths H.windows → PositiveLengths T
    unfolding turns_among
    among_lengths h t l = h t l

    pub vehicle_conflict : (x y : ℕ) → same_vehicle H x y ≡ true → conflict T x y ≡ true
    unfolding turns_among
    vehicle_conflict x y e = Conflicts.conflicts T x y (Conflicts.slopes (Conflicts.is_slope T x y (vehicle_is x y e)))

    pub minute_conflict : (x y : ℕ) → share_minute H x y ≡ true → conflict T x y ≡ true
    unfolding turns_among
    minute_conflict x y e = Conflicts.conflicts T x y (Conflicts.groomers (Conflicts.is_groomer T x y refl (Conflicts.lt_overlap T x y (omega (arith, share_lt x y e)))))

    -- a right step is on a window that no open one ends before
    pub right_first : {s : List ℤ} {x : Step} → Right T s x → (t : ℕ) → t < window_count H → is_open s t ≡ true → H.windows.end x.turn ≤ H.windows.end t
    unfolding turns_among
    right_first q t l o = q.early t l o refl
