-- The first look, at prices of 0: its limit is lower than the number that stands before it, so that it is kept. Assumes nothing.
use Prim.Native.Nat.{ℕ, zero, suc, ◌+◌, ◌-◌, ◌*◌, ◌<◌, ◌≤◌}
use mathlib.Core.Path.{◌≡◌, refl}
use mathlib.Core.Logic.{◌⊎◌, inl, inr}
use mathlib.Core.List.{List, [], ◌∷◌}
use mathlib.Core.Bool.{Bool, true, false, cond}
use native.Mathlib.Omega.{arith}
use lib.Dec.{ltb}
use lib.ListN.{drop, replicate, get_or}
use Rattle.lists.specs.Lists.{sum_over, below}
use Rattle.lists.proofs.Sums.{sum_zero, all_of}
use Rattle.turn.specs.Turn.{shift_minutes, most_worth}
use Rattle.sheet.specs.Kind.{most_turns}
use Rattle.model.specs.Turns.{Turns}
use Rattle.best_spec.specs.Table.{turn_order, blocked, best_over, best_worth}
use Rattle.best_spec.proofs.Tables.{best_ind}
use Rattle.best_spec.proofs.Ordering.{order_sum}
use Rattle.choice_map.proofs.Clean.{zeros_at}
use Rattle.instance.proofs.Rows.{count_is}
use Rattle.limit_spec.specs.Prices.{slope_price, turn_price, counts_for, price_sum}
use Rattle.shift_look.specs.OrdersAndCounts.{counted_turns, turns_in}
use Rattle.charge_spec.specs.Hall.{window_count, vehicle}
use Rattle.hall_by_prices_spec.specs.Prices.{minute_price, window_counts, vehicle_best, supply_cost, hall_limit}
use Rattle.hall_by_prices_spec.proofs.HallLimits.{vehicle_most}
use Rattle.hall_look.specs.declared.HallSize.{HallSize}
use Rattle.hall_look.specs.Look.{hall_for, HallPosed}
use Rattle.price_rule.specs.Rules.{RuleFor, Shift, Hall, prices_of, rule_limit, RulePosed}

sum_most : (f : ℕ → ℕ) (most n : ℕ) → ((k : ℕ) → k < n → f k ≤ most) → sum_over f (below n) ≤ n * most
sum_most f most zero h = omega arith
sum_most f most (suc n) h = omega (arith, h n (omega arith), sum_most f most n (λ k l. h k (omega arith)))

-- ---- a shift: a table gives no more than all turns are worth

sum_drop : (f : ℕ → ℕ) (k : ℕ) (ts : List ℕ) → sum_over f (drop k ts) ≤ sum_over f ts
sum_drop f zero ts = omega arith
sum_drop f (suc k) [] = omega arith
sum_drop f (suc k) (t ∷ ts) = omega (arith, sum_drop f k ts)

table_most : (T : Turns) (ts : List ℕ) → (best_over T ts).worth ≤ sum_over T.worth ts
table_most T =
    best_ind T (λ ts b. b.worth ≤ sum_over T.worth ts) (omega arith) (λ t us l p q. omega (arith, p)) (λ t us l p q. omega (arith, q, sum_drop T.worth (blocked T t us) us))

module _ (T : Turns) (slopes k : ℕ) where
  no_prices : price_sum T slopes (replicate {A = ℕ} k 0) ≡ 0
  unfolding price_sum slope_price turn_price
  no_prices =
      omega (
        arith,
        sum_zero (λ j. get_or (replicate {A = ℕ} k 0) (j + 1 - 1) 0) (all_of (λ j. zeros_at k (j + 1 - 1)) (below slopes)),
        sum_zero (λ u. cond (ltb 0 (T.driver u)) (get_or (replicate {A = ℕ} k 0) (slopes + u) 0) 0) (all_of (λ u. no_price (ltb 0 (T.driver u)) u) (below T.count)),
      )
    where
      no_price : (b : Bool) (u : ℕ) → cond b (get_or (replicate {A = ℕ} k 0) (slopes + u) 0) 0 ≡ 0
      no_price true u = zeros_at k (slopes + u)
      no_price false u = refl

  shift_limit : T.count ≤ most_turns → ((t : ℕ) → t < T.count → T.worth t ≤ most_worth) → price_sum T slopes (replicate k 0) + best_worth (counted_turns T slopes (replicate k 0)) < 4294967295
  unfolding best_worth counted_turns counts_for
  shift_limit few worths =
      let C = counted_turns T slopes (replicate k 0) in
      let m : sum_over C.worth (below T.count) ≤ T.count * most_worth = sum_most C.worth most_worth T.count (λ t l. omega (arith, worths t l)) in
      omega (arith, no_prices, table_most C (turn_order C), order_sum C C.worth, m)

-- ---- a hall: no vehicle's best window counts for more than a window is worth

module _ (h : HallSize) (cols : List ℕ) (q : HallPosed h cols) where
  abbrev free : List ℕ
  free = replicate {A = ℕ} shift_minutes 0

  no_cost : supply_cost (hall_for h cols) (replicate {A = ℕ} shift_minutes 0) ≡ 0
  unfolding supply_cost minute_price
  no_cost = rw (sum_zero (λ m. get_or (replicate {A = ℕ} shift_minutes 0) m 0) (all_of (λ m. zeros_at shift_minutes m) (below shift_minutes))) (omega arith)

  best_most : (prices : List ℕ) (v : ℕ) → (vehicle_best (hall_for h cols) prices v).worth ≤ most_worth
  unfolding window_counts
  best_most prices v = go (vehicle_most (hall_for h cols) prices v).attained
    where
      go : ((vehicle_best (hall_for h cols) prices v).worth ≡ 0) ⊎ ((t : ℕ) × (t < window_count (hall_for h cols)) × (vehicle (hall_for h cols) t ≡ v) × (window_counts (hall_for h cols) prices t ≡ (vehicle_best (hall_for h cols) prices v).worth)) → (vehicle_best (hall_for h cols) prices v).worth ≤ most_worth
      go (inl z) = omega (arith, z)
      go (inr (t, l, o, e)) = omega (arith, e, q.held.held.worths t (omega (arith, l, count_is h.size cols)))

  hall_limit_lem : hall_limit (hall_for h cols) h.vehicles (replicate {A = ℕ} shift_minutes 0) < 4294967295
  unfolding hall_limit
  hall_limit_lem = omega (arith, no_cost, q.vehicles, sum_most (λ k. (vehicle_best (hall_for h cols) free (k + 1)).worth) most_worth h.vehicles (λ k l. best_most free (k + 1)))

-- ---- either

pub first_limit : (r : RuleFor) (cols : List ℕ) → RulePosed r cols → rule_limit r cols (replicate (prices_of r) 0) < 4294967295
unfolding RulePosed rule_limit prices_of
first_limit (Shift e) cols w =
    shift_limit (turns_in e cols) e.slopes (e.slopes + e.size.count) (omega (arith, count_is e.size cols, w.held.few)) (λ u l. w.held.worths u (omega (arith, count_is e.size cols)))
first_limit (Hall h) cols w = hall_limit_lem h cols w
