-- The plan of the small windows (5.2.5, narrow instances, factor 3): what its steps take from an allowed set, and what its own choice earns. In the source a step takes a fraction of its amount from what intersects J. Here that is rounded up to a whole number, so that the choice still earns its tally; but each of an allowed set's windows at J's last minute may lose up to 1 more, and these are at most as many as the units, since each draws at least one. The added term, the units for each step, pays for that. Assumes nothing.
use mathlib.Core.Path.{◌≡◌, refl, sym, ◌∙◌}
use mathlib.Core.Logic.{◌≢◌}
use mathlib.Core.Bool.{Bool, true, false, cond, ◌&&◌}
use mathlib.Core.List.{List}
use Prim.Native.Nat.{ℕ, ◌+◌, ◌-◌, ◌*◌, ◌≤◌, ◌<◌}
use native.Mathlib.Nat.{le_of_mul-le-mul_left, mul-le-mul_left}
use native.Mathlib.Omega.{arith}
use lib.IntN.{ℤ}
use lib.ListN.{length}
use Rattle.lists.specs.Lists.{sum_over, below}
use Rattle.model.specs.Turns.{Turns}
use Rattle.model.specs.Steps.{Step, is_open, initial, after_step_by, final, tally}
use Rattle.model.specs.Choice.{has, chosen}
use Rattle.model.specs.Rules.{Right, Each}
use Rattle.lists.proofs.Bools.{and_1, and_2, fails}
use Rattle.lists.proofs.Sums.{sum_add, sum_mono, all_of, all_map, sum_scale}
use Rattle.model.proofs.Account.{each_map, each_with}
use Rattle.model.proofs.Groups.{Apart, apart_from, Clique, share, one_of}
use Rattle.model.proofs.Residuals.{Closed, taken_by, taken_by_open}
use Rattle.model.proofs.Planned.{plan_by_right, plan_by_closed, opens_most}
use Rattle.model.proofs.Bound.{bound_taking, total_besides}
use Rattle.model.proofs.Filled.{Pays, fill_earned}
use Rattle.model.proofs.Choices.{chosen_point}
use Rattle.charge_spec.specs.Hall.{Hall, window_count, vehicle, draw, same_vehicle, share_minute, charges_at, draw_at, drawn_at, is_small, Allowed, HallInRange}
use Rattle.charge_spec.specs.Plan.{turns_among, rounded_up, small_takes, small_steps, fits_among, choose_among, small_choice, worth_in}
use Rattle.charge_spec.proofs.Windows
use Rattle.charge_spec.proofs.Takes.{up_most, up_least, takes_vehicle, small_taking}
use Rattle.charge_spec.proofs.Open.{OnlyKind, first_only, after_only, kind_worth}
use Rattle.charge_spec.proofs.Allowing.{Short, same_vehicle_lem, out_of_supply, unfit_short}

-- no vehicle comes twice in an allowed set
allowed_apart : (H : Hall) {R : List ℕ} → Allowed H R → Apart (same_vehicle H) R
allowed_apart H a =
    apart_from (λ t. t < window_count H) (same_vehicle H) (λ t u. vehicle H t ≢ vehicle H u) (λ t u l m d. fails (same_vehicle H t u) (λ e. d (Windows.vehicle_is H t u e)))
    a.numbers a.once a.vehicles

module _ (H : Hall) (good : HallInRange H) where
  abbrev T : Turns
  T = turns_among H (is_small H)

  abbrev next : List ℤ → Step → List ℤ
  next = after_step_by (small_takes H)

  abbrev taken : List ℤ → Step → ℕ → ℕ
  taken = taken_by (small_takes H)

  module _ (s : List ℤ) (x : Step) where
    -- what an open window of another vehicle loses, if it has a minute in common with J
    unfoldable portion : ℕ → ℕ
    portion t = rounded_up (2 * draw H t * x.amount) H.units

    -- the two kinds of windows that a step takes from: those of J's vehicle, and those that share a minute with J
    abbrev of_vehicle : ℕ → Bool
    of_vehicle t = is_open s t && same_vehicle H x.turn t

    abbrev besides : ℕ → ℕ
    besides t = cond (is_open s t && share_minute H x.turn t) (portion t) 0

    in_portions : (t : ℕ) → taken s x t ≤ share of_vehicle x.amount t + besides t
    unfolding taken_by small_takes portion
    in_portions t = go (is_open s t) (same_vehicle H x.turn t) (share_minute H x.turn t)
      where
        go : (o v m : Bool) → cond o (cond v x.amount (cond m (rounded_up (2 * draw H t * x.amount) H.units) 0)) 0 ≤ cond (o && v) x.amount 0 + cond (o && m) (rounded_up (2 * draw H t * x.amount) H.units) 0
        go true true m = omega arith
        go true false m = omega arith
        go false v m = omega arith

    -- ---- against every allowed set

    module _ (q : Right T s x) where
      -- an open window with a minute in common with J charges at J's last one, since none ends before J
      at_last : (t : ℕ) → t < window_count H → is_open s t ≡ true → share_minute H x.turn t ≡ true → charges_at H (H.windows.end x.turn - 1) t ≡ true
      at_last t l o e =
          let h = Windows.share_lt H x.turn t e in
          Windows.in_charges H (H.windows.end x.turn - 1) t (omega (arith, h)) (omega (arith, h, Windows.right_first H (is_small H) q t l o))

      besides_most : (t : ℕ) → t < window_count H → H.units * besides t ≤ (2 * x.amount + (H.units - 1)) * draw_at H (H.windows.end x.turn - 1) t
      unfolding portion
      besides_most t l = go (is_open s t && share_minute H x.turn t) refl
        where
          go : (b : Bool) → (is_open s t && share_minute H x.turn t) ≡ b → H.units * cond b (rounded_up (2 * draw H t * x.amount) H.units) 0 ≤ (2 * x.amount + (H.units - 1)) * draw_at H (H.windows.end x.turn - 1) t
          go true e =
              rw (Windows.draw_at_charging H (H.windows.end x.turn - 1) t (at_last t l (and_1 (is_open s t) (share_minute H x.turn t) e) (and_2 (is_open s t) (share_minute H x.turn t) e)))
              (omega (arith, up_most (2 * draw H t * x.amount) H.units good.supplied, mul-le-mul_left (H.units - 1) (good.draws_from t l)))
          go false e = omega arith

      -- a step takes from an allowed set at most three times its amount, and less than the units besides: the amount from J's vehicle, twice the amount by the draws at J's last minute, and at each of these windows up to a whole by rounding up
      pub step_cost_lem : (R : List ℕ) → Allowed H R → sum_over (taken s x) R ≤ 3 * x.amount + H.units
      unfolding Clique
      step_cost_lem R r =
          omega (
            arith,
            sum_mono (taken s x) (λ t. share of_vehicle x.amount t + besides t) (all_of in_portions R),
            sum_add (share of_vehicle x.amount) besides R,
            one_of (λ t. t < window_count H) (same_vehicle H) x.amount of_vehicle one_vehicle r.numbers (allowed_apart H r),
            le_of_mul-le-mul_left {m = sum_over besides R} {n = 2 * x.amount + (H.units - 1)} {k = H.units} scaled good.supplied,
          )
        where
          one_vehicle : (y z : ℕ) → y < window_count H → z < window_count H → of_vehicle y ≡ true → of_vehicle z ≡ true → same_vehicle H y z ≡ true
          one_vehicle y z _ _ e f =
              Windows.is_vehicle H y z
              (sym (Windows.vehicle_is H x.turn y (and_2 (is_open s y) (same_vehicle H x.turn y) e)) ∙ Windows.vehicle_is H x.turn z (and_2 (is_open s z) (same_vehicle H x.turn z) f))

          last : ℕ
          last = H.windows.end x.turn - 1

          scaled : H.units * sum_over besides R ≤ H.units * (2 * x.amount + (H.units - 1))
          scaled =
              omega (
                arith,
                sum_scale H.units besides R,
                sum_scale (2 * x.amount + (H.units - 1)) (draw_at H last) R,
                sum_mono (λ t. H.units * besides t) (λ t. (2 * x.amount + (H.units - 1)) * draw_at H last t) (all_map besides_most r.numbers),
                mul-le-mul_left (2 * x.amount + (H.units - 1)) (r.supply last),
              )

    -- ---- against the plan's own choice

    -- where J charges too, an open small window has paid for its draw
    pays_draw : (minute t : ℕ) → charges_at H minute x.turn ≡ true → charges_at H minute t ≡ true → is_open s t ≡ true → is_small H t ≡ true → 2 * x.amount * draw H t ≤ H.units * taken s x t
    unfolding small_takes
    pays_draw minute t cj ct o small = rw (taken_by_open (small_takes H) s x t o, Windows.charges_share H minute x.turn t cj ct) (go (same_vehicle H x.turn t))
      where
        go : (b : Bool) → 2 * x.amount * draw H t ≤ H.units * cond b x.amount (rounded_up (2 * draw H t * x.amount) H.units)
        go true = omega (arith, mul-le-mul_left x.amount (Windows.small_is H t small))
        go false = omega (arith, up_least (2 * draw H t * x.amount) H.units good.supplied)

    module _ (S : List Bool) (h : (t : ℕ) → has S t ≡ true → is_open s t ≡ true) (k : OnlyKind (is_small H) s) where
      -- the chosen windows at a minute of J's have paid for their draws together
      pays_minute : (minute : ℕ) → charges_at H minute x.turn ≡ true → 2 * x.amount * drawn_at H S minute ≤ H.units * chosen (window_count H) S (taken s x)
      unfolding chosen drawn_at
      pays_minute minute cj =
          omega (
            arith,
            sum_scale (2 * x.amount) (λ t. cond (has S t) (draw_at H minute t) 0) (below (window_count H)),
            sum_scale H.units (λ t. cond (has S t) (taken s x t) 0) (below (window_count H)),
            sum_mono (λ t. 2 * x.amount * cond (has S t) (draw_at H minute t) 0) (λ t. H.units * cond (has S t) (taken s x t) 0) (all_of each (below (window_count H))),
          )
        where
          each : (t : ℕ) → 2 * x.amount * cond (has S t) (draw_at H minute t) 0 ≤ H.units * cond (has S t) (taken s x t) 0
          each t = go (has S t) refl (charges_at H minute t) refl
            where
              go : (b : Bool) → has S t ≡ b → (c : Bool) → charges_at H minute t ≡ c → 2 * x.amount * cond b (draw_at H minute t) 0 ≤ H.units * cond b (taken s x t) 0
              go true e true f = rw (Windows.draw_at_charging H minute t f) (pays_draw minute t cj f (h t e) (k t (h t e)))
              go true e false f = rw (Windows.draw_at_not H minute t f) (omega arith)
              go false e c f = omega arith

      -- beside which J does not fit: J's vehicle is there and has paid the amount, or more than half of the units are drawn, and that has paid it
      pays_short : is_small H x.turn ≡ true → Short H S x.turn → x.amount ≤ chosen (window_count H) S (taken s x)
      pays_short small (same_vehicle_lem t l e v) =
          omega (
            arith,
            chosen_point (window_count H) S (taken s x) t l e,
            taken_by_open (small_takes H) s x t (h t e) ∙ takes_vehicle H x.turn x.amount t (Windows.vehicle_sym H t x.turn v),
          )
      pays_short small (out_of_supply minute c over) =
          let half : H.units ≤ 2 * drawn_at H S minute = omega (arith, over, Windows.small_is H x.turn small) in
          le_of_mul-le-mul_left {m = x.amount} {n = chosen (window_count H) S (taken s x)} {k = H.units} (omega (arith, pays_minute minute c, mul-le-mul_left x.amount half)) good.supplied

  -- ---- the whole plan

  steps_right : Each next (Right T) (initial T) (small_steps H)
  unfolding small_steps
  steps_right = plan_by_right T next (window_count H) (initial T)

  steps_closed : Closed T (final next (initial T) (small_steps H))
  unfolding small_steps turns_among
  steps_closed = plan_by_closed T next (small_taking H) (window_count H) (initial T) (opens_most T (initial T))

  -- what the small windows of an allowed set are worth
  pub small_part : (R : List ℕ) → Allowed H R → sum_over T.worth R ≤ 3 * tally (small_steps H) + H.units * length (small_steps H)
  unfolding turns_among
  small_part R r =
      omega (
        arith,
        total_besides next 3 H.units (initial T) (small_steps H),
        bound_taking T (small_taking H) R r.numbers (λ s x. 3 * x.amount + H.units) (λ s x q. step_cost_lem s x q R r) steps_right steps_closed,
      )

  steps_pay : Each next (λ s x. Right T s x × Pays T (small_taking H) (fits_among H (is_small H)) s x) (initial T) (small_steps H)
  unfolding turns_among
  steps_pay =
      each_map (λ s x (k, q). (q, λ S h e. pays_short s x S h k (k x.turn q.live) (unfit_short H (is_small H) S x.turn (k x.turn q.live) e)))
      (each_with (λ s x k q. after_only (is_small H) (small_taking H) s x k) (first_only (is_small H) H) steps_right)

  pub small_earns : tally (small_steps H) ≤ worth_in H (small_choice H)
  unfolding small_choice choose_among turns_among
  small_earns = let e : tally (small_steps H) ≤ chosen (window_count H) (small_choice H) T.worth = fill_earned T (small_taking H) (fits_among H (is_small H)) _ steps_pay in omega (arith, e, kind_worth H (is_small H) (small_choice H))
