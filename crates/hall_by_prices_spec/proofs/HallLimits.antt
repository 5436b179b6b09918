-- Whatever the prices of the minutes are, no allowed set is worth more than the hall's limit; and which window a vehicle takes. Assumes nothing.
use mathlib.Core.Path.{◌≡◌, refl, sym, ap, ◌∙◌}
use mathlib.Core.Logic.{◌≢◌, ◌↔◌, inl, inr}
use mathlib.Core.Bool.{Bool, true, false, cond}
use mathlib.Core.List.{List, [], ◌∷◌}
use Prim.Native.Nat.{ℕ, zero, suc, ◌+◌, ◌-◌, ◌*◌, ◌/◌, ◌≤◌, ◌<◌}
use native.Mathlib.Omega.{arith}
use native.Mathlib.Nat.{mul-le-mul_left}
use native.Mathlib.Decide.{dec_lt}
use lib.Dec.{ltb, eqb}
use borrow.Author.Tests.{eqb-true, eq-eqb, eqb-false, lt-ltb, le-ltb}
use Rattle.lists.specs.Lists.{sum_over, below}
use Rattle.lists.proofs.Bools.{not_both, fails, or_1, up_to}
use Rattle.lists.proofs.Sums.{sum_mono, sum_same, sum_zero, all_of, all_map, tab_at, sum_scale}
use Rattle.model.specs.Choice.{has}
use Rattle.model.proofs.Groups.{Apart, apart_from, Clique, one_of}
use Rattle.best_spec.specs.Table.{Best, no_turns, greater, is_among}
use Rattle.best_spec.proofs.Members.{among_cons}
use Rattle.turn.specs.Turn.{shift_minutes}
use Rattle.limit_spec.specs.Promises.{AllFree}
use Rattle.limit_spec.proofs.Duality.{weak_duality, paid_costs, paid_one}
use Rattle.charge_spec.specs.Hall.{Hall, window_count, vehicle, draw, same_vehicle, charges_at, draw_at, Allowed}
use Rattle.charge_spec.specs.Promises.{worth_of_windows}
use Rattle.charge_spec.proofs.Windows.{vehicle_is, is_vehicle}
use Rattle.hall_by_prices_spec.specs.Prices.{price_parts, minute_price, minutes_cost, window_pays, window_counts, alone, richest_of, vehicle_best, supply_cost, hall_limit, hall_relaxed, MostOfVehicle, TakenWindow}

-- ---- sums

parts_add : (a b : ℕ) → a / price_parts + b / price_parts ≤ (a + b) / price_parts
parts_add a b = omega arith

parts_mono : (a b : ℕ) → a ≤ b → a / price_parts ≤ b / price_parts
parts_mono a b h = omega arith

-- numbers divided each, and rounded down, come to no more than their sum divided
parts_sum : (f : ℕ → ℕ) (R : List ℕ) → sum_over (λ t. f t / price_parts) R ≤ sum_over f R / price_parts
parts_sum f [] = omega arith
parts_sum f (t ∷ R) = omega (arith, parts_add (f t) (sum_over f R), parts_sum f R)

-- ---- a rule is kept: no allowed set pays more than all units cost

module _ (H : Hall) (prices : List ℕ) where
  -- what window t pays for a minute, in parts
  abbrev minute_pays : ℕ → ℕ → ℕ
  minute_pays m t = draw H t * cond (charges_at H m t) (minute_price prices m) 0

  -- that is the minute's price for each unit that it draws then
  pays_drawn : (m t : ℕ) → minute_pays m t ≡ minute_price prices m * draw_at H m t
  unfolding draw_at
  pays_drawn m t = go (charges_at H m t)
    where
      go : (b : Bool) → draw H t * cond b (minute_price prices m) 0 ≡ minute_price prices m * cond b (draw H t) 0
      go true = omega arith
      go false = omega arith

  -- what it pays for the minutes below n, in parts
  abbrev parts_paid : ℕ → ℕ → ℕ
  parts_paid n t = draw H t * sum_over (λ m. cond (charges_at H m t) (minute_price prices m) 0) (below n)

  module _ (R : List ℕ) (a : Allowed H R) where
    -- what is paid for a minute is at most what the units cost then
    minute_costs : (m : ℕ) → sum_over (minute_pays m) R ≤ H.units * minute_price prices m
    minute_costs m =
        omega (
          arith,
          sum_mono (minute_pays m) (λ t. minute_price prices m * draw_at H m t) (all_of (λ t. omega (arith, pays_drawn m t)) R),
          sum_scale (minute_price prices m) (draw_at H m) R,
          mul-le-mul_left (minute_price prices m) (a.supply m),
        )

    parts_most : (n : ℕ) → sum_over (parts_paid n) R ≤ H.units * sum_over (minute_price prices) (below n)
    parts_most n =
        omega (
          arith,
          sum_mono (parts_paid n) (λ t. sum_over (λ m. minute_pays m t) (below n)) (all_of (λ t. omega (arith, sum_scale (draw H t) (λ m. cond (charges_at H m t) (minute_price prices m) 0) (below n))) R),
          paid_costs n minute_pays (λ m. H.units * minute_price prices m) R (λ m h. minute_costs m),
          sum_scale H.units (minute_price prices) (below n),
        )

    paid_below : (n : ℕ) → sum_over (λ t. parts_paid n t / price_parts) R ≤ H.units * sum_over (minute_price prices) (below n) / price_parts
    paid_below n = omega (arith, parts_sum (parts_paid n) R, parts_mono (sum_over (parts_paid n) R) (H.units * sum_over (minute_price prices) (below n)) (parts_most n))

    paid_most : sum_over (window_pays H prices) R ≤ supply_cost H prices
    unfolding window_pays minutes_cost supply_cost
    paid_most = paid_below shift_minutes

-- ---- one window a vehicle

module _ (H : Hall) {R : List ℕ} (a : Allowed H R) where
  own_vehicles : Apart (same_vehicle H) R
  own_vehicles =
      apart_from (λ t. t < window_count H) (same_vehicle H) (λ t u. vehicle H t ≢ vehicle H u) (λ t u l m d. fails (same_vehicle H t u) (λ e. d (vehicle_is H t u e)))
      a.numbers a.once a.vehicles

  vehicle_clique : (k : ℕ) → Clique (λ t. t < window_count H) (same_vehicle H) (λ t. eqb (vehicle H t) (k + 1))
  unfolding Clique
  vehicle_clique k x y hx hy p q = is_vehicle H x y (eqb-true (vehicle H x) (k + 1) p ∙ sym (eqb-true (vehicle H y) (k + 1) q))

  -- a number for the vehicle of each window is counted at most once for each vehicle
  vehicles_sum : (f : ℕ → ℕ) (vehicles : ℕ) → ((t : ℕ) → t < window_count H → (1 ≤ vehicle H t) × (vehicle H t ≤ vehicles)) →
      sum_over (λ t. f (vehicle H t)) R ≤ sum_over (λ k. f (k + 1)) (below vehicles)
  vehicles_sum f vehicles numbers =
      omega (
        arith,
        sum_mono (λ t. f (vehicle H t)) (λ t. sum_over (λ k. cond (eqb (vehicle H t) (k + 1)) (f (k + 1)) 0) (below vehicles))
            (all_map (λ t h. omega (arith, paid_one f vehicles (vehicle H t) (numbers t h).0 (numbers t h).1)) a.numbers),
        paid_costs vehicles (λ k t. cond (eqb (vehicle H t) (k + 1)) (f (k + 1)) 0) (λ k. f (k + 1)) R
            (λ k h. one_of (λ t. t < window_count H) (same_vehicle H) (f (k + 1)) (λ t. eqb (vehicle H t) (k + 1)) (vehicle_clique k) a.numbers own_vehicles),
      )

-- ---- the window that a vehicle takes

module _ (H : Hall) (counts : ℕ → ℕ) (v : ℕ) where
  -- of the first k windows: none, where each of the vehicle's counts for 0, or one that none of them exceeds and each before it falls short of
  data Richest (k : ℕ) : Best → Type 0 where
    no_window : ((u : ℕ) → u < k → vehicle H u ≡ v → counts u ≡ 0) → Richest k no_turns
    one_window : (t : ℕ) → t < k → vehicle H t ≡ v → 0 < counts t → ((u : ℕ) → u < k → vehicle H u ≡ v → counts u ≤ counts t) →
        ((u : ℕ) → u < t → vehicle H u ≡ v → counts u < counts t) → Richest k (alone counts t)

  richest_most : {k : ℕ} {b : Best} → Richest k b → (u : ℕ) → u < k → vehicle H u ≡ v → counts u ≤ b.worth
  richest_most (no_window z) u l e = omega (arith, z u l e)
  richest_most (one_window t i o c most first) u l e = most u l e

  -- one window more, of another vehicle
  richest_other : (k : ℕ) (b : Best) → Richest k b → vehicle H k ≢ v → Richest (suc k) b
  richest_other k b (no_window z) d = no_window (up_to (λ u. vehicle H u ≡ v → counts u ≡ 0) k z (λ e. absurd (d e)))
  richest_other k b (one_window t l o c most first) d =
      one_window t (omega arith) o c (up_to (λ u. vehicle H u ≡ v → counts u ≤ counts t) k most (λ e. absurd (d e))) first

  -- one of this vehicle, which counts for no more, or for more
  richest_less : (k : ℕ) (b : Best) → Richest k b → counts k ≤ b.worth → Richest (suc k) b
  richest_less k b (no_window z) h = no_window (up_to (λ u. vehicle H u ≡ v → counts u ≡ 0) k z (λ e. omega arith))
  richest_less k b (one_window t l o c most first) h = one_window t (omega arith) o c (up_to (λ u. vehicle H u ≡ v → counts u ≤ counts t) k most (λ e. h)) first

  richest_more : (k : ℕ) (b : Best) → Richest k b → vehicle H k ≡ v → b.worth < counts k → Richest (suc k) (alone counts k)
  richest_more k b r o h =
      let short : (u : ℕ) → u < k → vehicle H u ≡ v → counts u < counts k = λ u l e. omega (arith, richest_most r u l e) in
      one_window k (omega arith) o (omega arith) (up_to (λ u. vehicle H u ≡ v → counts u ≤ counts k) k (λ u l e. omega (arith, short u l e)) (λ e. omega arith)) short

  richest_is : (k : ℕ) → Richest k (richest_of H counts v k)
  unfolding richest_of greater
  richest_is zero = no_window (λ u l e. absurd (omega arith))
  richest_is (suc k) = go (richest_of H counts v k) (richest_is k) (eqb (vehicle H k) v) refl
    where
      own : (b : Best) → Richest k b → vehicle H k ≡ v → Dec (b.worth < counts k) → Richest (suc k) (cond (ltb b.worth (counts k)) (alone counts k) b)
      own b r o (yes h) = rw (lt-ltb b.worth (counts k) h) (richest_more k b r o h)
      own b r o (no h) = rw (le-ltb b.worth (counts k) (omega arith)) (richest_less k b r (omega arith))

      go : (b : Best) → Richest k b → (q : Bool) → eqb (vehicle H k) v ≡ q → Richest (suc k) (cond (ltb b.worth (cond q (alone counts k) no_turns).worth) (cond q (alone counts k) no_turns) b)
      go b r true e = own b r (eqb-true (vehicle H k) v e) (dec_lt b.worth (counts k))
      go b r false e = rw (le-ltb b.worth 0 (omega arith)) (richest_other k b r (eqb-false (vehicle H k) v e))

among_none : (t : ℕ) → is_among [] t ≡ true → ⊥
unfolding is_among
among_none t e = not_both e refl

among_alone : (t w : ℕ) → is_among (w ∷ []) t ≡ true → t ≡ w
among_alone t w e = elim (among_cons t w [] e) [ inl q ↦ q | inr q ↦ absurd (among_none t q) ]

alone_among : (t w : ℕ) → t ≡ w → is_among (w ∷ []) t ≡ true
unfolding is_among
alone_among t w e = or_1 (eqb t w) false (eq-eqb t w e)

module _ (H : Hall) (prices : List ℕ) where
  abbrev Taken : ℕ → Best → Type 0
  Taken v b = Richest H (window_counts H prices) v (window_count H) b

  taken_is : (v : ℕ) → Taken v (vehicle_best H prices v)
  unfolding vehicle_best
  taken_is v = richest_is H (window_counts H prices) v (window_count H)

  -- what is added to the limit for a vehicle is the most that a window of it counts for
  pub vehicle_most : (v : ℕ) → MostOfVehicle H prices v (vehicle_best H prices v).worth
  vehicle_most v = go (taken_is v)
    where
      go : {b : Best} → Taken v b → MostOfVehicle H prices v b.worth
      go (no_window z) = record { greatest = λ u l e. omega (arith, z u l e); attained = inl refl }
      go (one_window t l o c most first) = record { greatest = most; attained = inr (t, l, o, refl) }

  -- there is only one such window
  taken_one : (v t w : ℕ) → TakenWindow H prices v t → TakenWindow H prices v w → t ≡ w
  taken_one v t w h k = go (dec_lt t w) (dec_lt w t)
    where
      go : Dec (t < w) → Dec (w < t) → t ≡ w
      go (yes l) d = absurd (omega (arith, k.lowest t l h.own, h.most w k.number k.own))
      go (no l) (yes m) = absurd (omega (arith, h.lowest w m k.own, k.most t h.number h.own))
      go (no l) (no m) = omega arith

  -- the window that a vehicle takes, in words
  pub taken_iff : (v t : ℕ) → (is_among (vehicle_best H prices v).turns t ≡ true) ↔ TakenWindow H prices v t
  taken_iff v t = go (taken_is v)
    where
      go : {b : Best} → Taken v b → (is_among b.turns t ≡ true) ↔ TakenWindow H prices v t
      go (no_window z) = (λ e. absurd (among_none t e), λ h. absurd (omega (arith, h.counts, z t h.number h.own)))
      go (one_window w l o c most first) =
          let taken : TakenWindow H prices v w = record { number = l; own = o; counts = c; most = most; lowest = first } in
          (λ e. rw (among_alone t w e) taken, λ h. alone_among t w (taken_one v t w h taken))

  -- the relaxed set, in words
  pub relaxed_iff : (t : ℕ) → t < window_count H → (has (hall_relaxed H prices) t ≡ true) ↔ TakenWindow H prices (vehicle H t) t
  unfolding hall_relaxed
  relaxed_iff t l = rw (tab_at (window_count H) (λ u. is_among (vehicle_best H prices (vehicle H u)).turns u) false t l) (taken_iff (vehicle H t) t)

  -- ---- the limit

  -- no allowed set is worth more than it
  pub within_hall_limit : (vehicles : ℕ) → ((t : ℕ) → t < window_count H → (1 ≤ vehicle H t) × (vehicle H t ≤ vehicles)) → (R : List ℕ) → Allowed H R → worth_of_windows H R ≤ hall_limit H vehicles prices
  unfolding hall_limit window_counts
  within_hall_limit vehicles numbers R a =
      weak_duality H.windows.worth (window_pays H prices) R (supply_cost H prices) (sum_over (λ k. (vehicle_best H prices (k + 1)).worth) (below vehicles)) (paid_most H prices R a)
      (omega (
        arith,
        sum_mono (λ t. H.windows.worth t - window_pays H prices t) (λ t. (vehicle_best H prices (vehicle H t)).worth) (all_map (λ t l. (vehicle_most (vehicle H t)).greatest t l refl) a.numbers),
        vehicles_sum H a (λ v. (vehicle_best H prices v).worth) vehicles numbers,
      ))

-- ---- no prices

module _ (H : Hall) (prices : List ℕ) (free : AllFree prices) where
  no_price : (b : Bool) (m : ℕ) → cond b (minute_price prices m) 0 ≡ 0
  unfolding minute_price
  no_price true m = free m
  no_price false m = refl

  nothing_paid : (t : ℕ) → window_pays H prices t ≡ 0
  unfolding window_pays minutes_cost
  nothing_paid t = rw (sum_zero (λ m. cond (charges_at H m t) (minute_price prices m) 0) (all_of (λ m. no_price (charges_at H m t) m) (below shift_minutes))) (omega arith)

  no_cost : supply_cost H prices ≡ 0
  unfolding supply_cost
  no_cost = rw (sum_zero (minute_price prices) (all_of (no_price true) (below shift_minutes))) (omega arith)

  -- each window counts for its worth
  counts_worth : (t : ℕ) → window_counts H prices t ≡ H.windows.worth t
  unfolding window_counts
  counts_worth t = omega (arith, nothing_paid t)

  free_best : (v : ℕ) → vehicle_best H prices v ≡ richest_of H H.windows.worth v (window_count H)
  unfolding vehicle_best
  free_best v = ap (λ (f : ℕ → ℕ). richest_of H f v (window_count H)) (λ j t. counts_worth t j)

  pub free_hall_limit : (vehicles : ℕ) → hall_limit H vehicles prices ≡ sum_over (λ k. (richest_of H H.windows.worth (k + 1) (window_count H)).worth) (below vehicles)
  unfolding hall_limit
  free_hall_limit vehicles =
      omega (
        arith,
        no_cost,
        sum_same (λ k. (vehicle_best H prices (k + 1)).worth) (λ k. (richest_of H H.windows.worth (k + 1) (window_count H)).worth) vehicles
            (λ k l. ap (λ (b : Best). b.worth) (free_best (k + 1))),
      )
