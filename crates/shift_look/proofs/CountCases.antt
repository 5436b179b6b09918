-- What a turn pays and counts for, by cases in the form in which the code leaves them. Assumes nothing.
use Prim.Native.Nat.{ℕ, ◌+◌, ◌-◌, ◌≤◌, ◌<◌}
use mathlib.Core.Path.{◌≡◌, refl, ap, ◌∙◌}
use mathlib.Core.Bool.{Bool, true, false, cond}
use mathlib.Core.List.{List}
use native.Mathlib.Omega.{arith}
use mir.Syntax.{w32}
use mir.Val.{Fits}
use lib.Dec.{ltb, leb}
use lib.ListN.{length, get_or}
use borrow.Author.Tests.{lt-ltb}
use Rattle.lists.specs.Lists.{sum_over, below}
use Rattle.lists.proofs.Bools.{and_1}
use Rattle.lists.proofs.Sums.{sum_same, sum_split, sum_zero, all_below}
use Rattle.sheet.specs.Kind.{most_turns}
use Rattle.model.specs.Turns.{Turns, by_driver}
use Rattle.model.proofs.Conflicts
use Rattle.instance.specs.declared.ways.Row.{Row}
use Rattle.instance.specs.declared.columns.Size.{Size}
use Rattle.instance.specs.Columns.{row_in, turns_by}
use Rattle.instance.proofs.Rows.{count_is, slope_at, worth_at}
use Rattle.best_spec.specs.Table.{turn_order}
use Rattle.limit_spec.specs.Prices.{slope_price, turn_price, pays_turn, paid_by, counts_for, most_price}
use Rattle.shift_look.specs.declared.Extent.{Extent}
use Rattle.shift_look.specs.OrdersAndCounts.{by_drivers, turns_in, place_driver, place_price, places_sum, paid_from, paid_to, left_after, SumsTo, NumbersTo, PaymentsTo, CountsTo, PaidRun, Ordered, Priced}
use Rattle.shift_look.proofs.SumCases.{drivers_sum}

-- ---- a run's sum

-- where h is g from one place to before another, and 0 elsewhere
run_total : (h g : ℕ → ℕ) (n from to : ℕ) → from ≤ to → to ≤ n → ((j : ℕ) → j < from → h j ≡ 0) → ((j : ℕ) → from ≤ j → j < to → h j ≡ g j) → ((j : ℕ) → to ≤ j → j < n → h j ≡ 0)
    → sum_over h (below n) + sum_over g (below from) ≡ sum_over g (below to)
run_total h g n from to a b before in_run past =
    let e : n ≡ from + ((to - from) + (n - to)) = omega arith in
    let f : to ≡ from + (to - from) = omega arith in
    let whole : sum_over h (below n) ≡ sum_over h (below (from + ((to - from) + (n - to)))) = ap (λ (k : ℕ). sum_over h (below k)) e in
    let run : sum_over g (below to) ≡ sum_over g (below (from + (to - from))) = ap (λ (k : ℕ). sum_over g (below k)) f in
    omega (
      arith,
      whole,
      run,
      sum_split h from ((to - from) + (n - to)),
      sum_split (λ u. h (from + u)) (to - from) (n - to),
      sum_split g from (to - from),
      sum_zero h (all_below from before),
      sum_same (λ u. h (from + u)) (λ u. g (from + u)) (to - from) (λ u l. in_run (from + u) (omega arith) (omega arith)),
      sum_zero (λ u. h (from + ((to - from) + u))) (all_below (n - to) (λ u l. past (from + ((to - from) + u)) (omega arith) (omega arith))),
    )

module _ (T : Turns) (slopes : ℕ) (prices : List ℕ) (t from to : ℕ) (r : PaidRun T t from to) where
  -- what t pays at place j
  abbrev paid_at : ℕ → ℕ
  paid_at j = cond (pays_turn T (get_or (turn_order (by_drivers T)) j 0) t) (turn_price slopes prices (get_or (turn_order (by_drivers T)) j 0)) 0

  -- who is paid for names a driver
  paid_named : (u : ℕ) → pays_turn T u t ≡ true → ltb 0 (T.driver u) ≡ true
  unfolding pays_turn
  paid_named u e = let d = (Conflicts.driver_is T u t (and_1 (by_driver T u t) (leb (T.end u) (T.end t)) e)).0 in lt-ltb 0 (T.driver u) (omega (arith, d.named))

  paid_in : (j : ℕ) → from ≤ j → j < to → paid_at j ≡ place_price T slopes prices j
  unfolding place_price place_driver
  paid_in j a b = let e = (r.pays j (omega (arith, r.within))).1 (a, b) in rw (e, paid_named (get_or (turn_order (by_drivers T)) j 0) e)

  paid_out : (j : ℕ) → j < T.count → ((from ≤ j) × (j < to) → ⊥) → paid_at j ≡ 0
  paid_out j h d = go (pays_turn T (get_or (turn_order (by_drivers T)) j 0) t) refl
    where
      go : (b : Bool) → pays_turn T (get_or (turn_order (by_drivers T)) j 0) t ≡ b → cond b (turn_price slopes prices (get_or (turn_order (by_drivers T)) j 0)) 0 ≡ 0
      go true e = absurd (d ((r.pays j h).0 e))
      go false e = refl

  run_sum : sum_over (λ u. cond (pays_turn T u t) (turn_price slopes prices u) 0) (below T.count) + places_sum T slopes prices from ≡ places_sum T slopes prices to
  unfolding places_sum
  run_sum =
      let whole = drivers_sum T (λ u. cond (pays_turn T u t) (turn_price slopes prices u) 0) in
      omega (
        arith,
        whole,
        run_total paid_at (place_price T slopes prices) T.count from to r.rising r.within (λ j l. paid_out j (omega (arith, r.rising, r.within)) (λ q. omega (arith, q.0))) paid_in (λ j a l. paid_out j l (λ q. omega (arith, q.1))),
      )

-- ---- what a turn pays

module _ (e : Extent) (cols orders prices sums : List ℕ) (t : ℕ) (ht : t < e.size.count) (o : Ordered (turns_in e cols) orders) (w : Priced e cols prices) (s : SumsTo (turns_in e cols) e.slopes prices sums e.size.count) where
  run : PaidRun (turns_in e cols) t (paid_from orders t) (paid_to orders t)
  run = o.runs t (omega (arith, count_is e.size cols))

  run_to : paid_to orders t ≤ e.size.count
  run_to = omega (arith, run.within, count_is e.size cols)

  sum_from : get_or sums (paid_from orders t) 0 ≡ places_sum (turns_in e cols) e.slopes prices (paid_from orders t)
  sum_from = s.values (paid_from orders t) (omega (arith, run.rising, run_to))

  sum_to : get_or sums (paid_to orders t) 0 ≡ places_sum (turns_in e cols) e.slopes prices (paid_to orders t)
  sum_to = s.values (paid_to orders t) run_to

  total : sum_over (λ u. cond (pays_turn (turns_in e cols) u t) (turn_price e.slopes prices u) 0) (below (turns_in e cols).count) + places_sum (turns_in e cols) e.slopes prices (paid_from orders t) ≡ places_sum (turns_in e cols) e.slopes prices (paid_to orders t)
  total = run_sum (turns_in e cols) e.slopes prices t (paid_from orders t) (paid_to orders t) run

  pub paid_few : t < most_turns
  paid_few = omega (arith, w.few)

  pub paid_from_lem : paid_from orders t ≤ most_turns
  paid_from_lem = omega (arith, run.rising, run_to, w.few)

  pub paid_to_lem : paid_to orders t ≤ most_turns
  paid_to_lem = omega (arith, run_to, w.few)

  pub paid_rises : get_or sums (paid_from orders t) 0 ≤ get_or sums (paid_to orders t) 0
  paid_rises = omega (arith, sum_from, sum_to, total)

  module _ {a : Row} (ea : a ≡ row_in cols t) where
    pub slope_from : 1 ≤ a.slope
    slope_from = omega (arith, slope_at e.size cols t ht ea, w.numbers t ht)

    pub slope_inside : a.slope - 1 < length prices
    slope_inside = omega (arith, slope_at e.size cols t ht ea, w.numbers t ht, w.list)

    module _ {x y : ℕ} (ey : y ≡ get_or sums (paid_to orders t) 0 - get_or sums (paid_from orders t) 0) where
      pub paid_fits : x ≤ most_price → Fits w32 (x + y)
      paid_fits l = omega (arith, s.most (paid_to orders t) run_to, run_to, w.few)

      pub paid_is : x ≡ get_or prices (a.slope - 1) 0 → x + y ≡ paid_by (turns_in e cols) e.slopes prices t
      unfolding paid_by slope_price
      paid_is ex =
          let q : get_or prices (a.slope - 1) 0 ≡ get_or prices ((turns_in e cols).slope t - 1) 0 = ap (λ (k : ℕ). get_or prices (k - 1) 0) (slope_at e.size cols t ht ea) in
          omega (arith, ex, q, sum_from, sum_to, total)

pub ruleset run_sum_cases = (paid_few, paid_from_lem, paid_to_lem, paid_rises)

pub ruleset paid_cases = (slope_from, slope_inside, paid_fits, paid_is)

-- ---- what it counts for

pub count_is_left : (e : Extent) (cols prices : List ℕ) (t : ℕ) {a : Row} {paid r : ℕ} → t < e.size.count → a ≡ row_in cols t → paid ≡ paid_by (turns_in e cols) e.slopes prices t → r ≡ a.worth - paid
    → r ≡ counts_for (turns_in e cols) e.slopes prices t
unfolding counts_for
count_is_left e cols prices t h ea f g = g ∙ rw (f, worth_at e.size cols t h ea)

-- what is left of the worths, of turns in columns
module _ (p : Size) (cols paid : List ℕ) where
  pub left_is : (t : ℕ) {a : Row} {r : ℕ} → t < p.count → a ≡ row_in cols t → r ≡ a.worth - get_or paid t 0 → r ≡ left_after (turns_by p cols) paid t
  unfolding left_after
  left_is t h ea g = g ∙ rw (worth_at p cols t h ea)

-- it is the counts, where they pay what is due
pub left_counts : (e : Extent) (cols prices paid counts : List ℕ) → PaymentsTo (turns_in e cols) e.slopes prices paid e.size.count → NumbersTo (left_after (turns_in e cols) paid) counts e.size.count
    → CountsTo (turns_in e cols) e.slopes prices counts e.size.count
unfolding counts_for left_after
left_counts e cols prices paid counts p l = record { places = l.places; values = λ t h. l.values t h ∙ rw (p.values t h) }
