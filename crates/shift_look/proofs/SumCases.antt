-- Sums of prices by cases, in the form in which the code's loops leave them. Assumes nothing.
use Prim.Native.Nat.{ℕ, suc, ◌+◌, ◌-◌, ◌*◌, ◌≤◌, ◌<◌}
use mathlib.Core.Path.{◌≡◌, refl, sym, ap, ◌∙◌}
use mathlib.Core.Bool.{cond}
use mathlib.Core.List.{List, [], ◌∷◌}
use native.Mathlib.Omega.{arith}
use native.Mathlib.Numerals.{add-one}
use native.Mathlib.Decide.{ℕ_discrete}
use lib.Dec.{ltb}
use lib.ListN.{length, get_or, set, replicate, length-set, length-replicate, get_or-replicate}
use lib.Seq.{get_or-set_same, get_or-set_other}
use borrow.Author.Tests.{lt-ltb}
use Rattle.lists.specs.Lists.{sum_over, below}
use Rattle.lists.proofs.Sums.{sum_zero, sum_same, sum_split, all_below}
use Rattle.sheet.specs.Kind.{most_turns, most_slopes}
use Rattle.model.specs.Turns.{Turns}
use Rattle.instance.specs.declared.ways.Row.{Row}
use Rattle.instance.specs.Ways.{turn_row}
use Rattle.instance.specs.Columns.{row_in, turns_by}
use Rattle.instance.proofs.Rows.{row_is, count_is}
use Rattle.best_spec.specs.Table.{turn_order}
use Rattle.best_spec.proofs.Ordering as ordering
use Rattle.best_table.specs.OrderAndTable.{entry_places}
use Rattle.best_table.proofs.OrderCases.{order_length, order_within}
use Rattle.limit_spec.specs.Prices.{slope_price, turn_price, price_sum, most_price}
use Rattle.shift_look.specs.declared.Extent.{Extent}
use Rattle.shift_look.specs.OrdersAndCounts.{by_drivers, turns_in, place_driver, place_price, places_sum, slopes_sum, NamedFrom, SumsTo, SummedTo, Ordered, Priced}

-- ---- the slopes' prices

module _ (prices : List ℕ) (slopes : ℕ) where
  pub slopes_start : SummedTo (slopes_sum prices) slopes 0 0
  unfolding slopes_sum
  slopes_start = record { within = omega arith; is = refl; most = omega arith }

  module _ {k total : ℕ} (s : SummedTo (slopes_sum prices) slopes k total) where
    pub slopes_more : {r : ℕ} → k < slopes → r ≡ get_or prices k 0 → r ≤ most_price → SummedTo (slopes_sum prices) slopes (k + 1) (total + r)
    unfolding slopes_sum slope_price
    slopes_more h e l =
        let q : get_or prices (k + 1 - 1) 0 ≡ get_or prices k 0 = ap (λ (i : ℕ). get_or prices i 0) (omega arith) in
        record { within = omega arith; is = rw (add-one k) (omega (arith, s.is, e, q)); most = omega (arith, s.most) }

pub ruleset slopes_cases = (slopes_start, slopes_more)

-- ---- a place of the drivers' order

pub driver_at : (e : Extent) (cols : List ℕ) (t : ℕ) {a : Row} → t < e.size.count → a ≡ row_in cols t → a.driver ≡ (turns_in e cols).driver t
unfolding turn_row
driver_at e cols t h q = ap (λ (r : Row). r.driver) (q ∙ row_is e.size cols t h)

pub drivers_within : (T : Turns) (j : ℕ) → j < T.count → get_or (turn_order (by_drivers T)) j 0 < T.count
unfolding by_drivers
drivers_within T j h = order_within (by_drivers T) j h

module _ (e : Extent) (cols orders prices : List ℕ) (w : Priced e cols prices) (o : Ordered (turns_in e cols) orders) (j : ℕ) (h : j < e.size.count) where
  place_is : get_or orders (2 * most_turns + j) 0 ≡ get_or (turn_order (by_drivers (turns_in e cols))) j 0
  place_is = o.drivers j (omega (arith, count_is e.size cols))

  place_within : get_or orders (2 * most_turns + j) 0 < e.size.count
  place_within = omega (arith, place_is, drivers_within (turns_in e cols) j (omega (arith, count_is e.size cols)), count_is e.size cols)

  pub price_inside : e.slopes + get_or orders (2 * most_turns + j) 0 < length prices
  price_inside = omega (arith, place_within, w.list)

  named_price : {r : ℕ} → r ≡ get_or prices (e.slopes + get_or orders (2 * most_turns + j) 0) 0 → 0 < place_driver (turns_in e cols) j → r ≡ place_price (turns_in e cols) e.slopes prices j
  unfolding place_price turn_price
  named_price g d = g ∙ rw (lt-ltb 0 (place_driver (turns_in e cols) j) d, place_is)

-- the driver there
module _ (e : Extent) (cols orders : List ℕ) (o : Ordered (turns_in e cols) orders) (j : ℕ) (h : j < e.size.count) where
  turn_is : get_or orders (2 * most_turns + j) 0 ≡ get_or (turn_order (by_drivers (turns_in e cols))) j 0
  turn_is = o.drivers j (omega (arith, count_is e.size cols))

  turn_within : get_or orders (2 * most_turns + j) 0 < e.size.count
  turn_within = omega (arith, turn_is, drivers_within (turns_in e cols) j (omega (arith, count_is e.size cols)), count_is e.size cols)

  pub turn_few : e.size.count ≤ most_turns → get_or orders (2 * most_turns + j) 0 < most_turns
  turn_few l = omega (arith, turn_within)

  pub driver_there : {a : Row} → a ≡ row_in cols (get_or orders (2 * most_turns + j) 0) → a.driver ≡ place_driver (turns_in e cols) j
  unfolding place_driver
  driver_there q = driver_at e cols (get_or orders (2 * most_turns + j) 0) turn_within q ∙ ap (turns_in e cols).driver turn_is

pub ruleset driver_cases = (turn_few, driver_there)

-- ---- the first place with a driver

module _ (T : Turns) where
  -- drivers do not fall along the order
  drivers_rise : (i j : ℕ) → i < j → j < T.count → place_driver T i ≤ place_driver T j
  unfolding place_driver by_drivers
  drivers_rise i j l h = go (ordering.ordered_at (by_drivers T) (ordering.order_ordered (by_drivers T)) i j l (omega (arith, order_length (by_drivers T))))
    where
      go : ordering.Leads (by_drivers T) (get_or (turn_order (by_drivers T)) i 0) (get_or (turn_order (by_drivers T)) j 0) → T.driver (get_or (turn_order (by_drivers T)) i 0) ≤ T.driver (get_or (turn_order (by_drivers T)) j 0)
      go (ordering.by_groomer_lem a) = omega arith
      go (ordering.by_end a b) = omega arith
      go (ordering.by_number a b c) = omega arith

module _ (e : Extent) (cols : List ℕ) where
  -- those before place j name none
  pub record NoneTo (j : ℕ) : Type 0 where
    pub within : j ≤ e.size.count
    pub none : (i : ℕ) → i < j → place_driver (turns_in e cols) i ≡ 0

  module _ {j : ℕ} (s : NoneTo j) where
    pub named_found : {d : ℕ} → j < e.size.count → d ≡ place_driver (turns_in e cols) j → 0 < d → NamedFrom (turns_in e cols) e.size.count j
    named_found h q z = record { within = s.within; none = s.none; named = λ i a b. go i a b (ℕ_discrete i j) }
      where
        go : (i : ℕ) → j ≤ i → i < e.size.count → Dec (i ≡ j) → 0 < place_driver (turns_in e cols) i
        go i a b (yes p) = rw p (omega arith)
        go i a b (no p) = omega (arith, drivers_rise (turns_in e cols) j i (omega arith) (omega (arith, count_is e.size cols)))

-- ---- sums from the front

module _ (e : Extent) (cols prices sums : List ℕ) (w : Priced e cols prices) where
  -- nothing is paid before the first place with a driver
  nothing : (r : ℕ) → NamedFrom (turns_in e cols) e.size.count r → (k : ℕ) → k ≤ r → places_sum (turns_in e cols) e.slopes prices k ≡ 0
  unfolding places_sum place_price
  nothing r f k l = sum_zero (λ j. place_price (turns_in e cols) e.slopes prices j) (all_below k (λ j h. rw (f.none j (omega arith))))

  pub sums_start : (r : ℕ) → sums ≡ replicate entry_places 0 → NamedFrom (turns_in e cols) e.size.count r → SumsTo (turns_in e cols) e.slopes prices sums r
  sums_start r q f =
      record {
        places = rw q (length-replicate {A = ℕ} entry_places 0);
        values = λ k l. zero_at k l ∙ sym (nothing r f k l);
        most = λ k l. omega (arith, zero_at k l);
      }
    where
      zero_at : (k : ℕ) → k ≤ r → get_or sums k 0 ≡ 0
      zero_at k l = rw q (get_or-replicate {A = ℕ} entry_places k 0 0 (omega (arith, f.within, w.few)))

  module _ (j : ℕ) (s : SumsTo (turns_in e cols) e.slopes prices sums j) where
    sums_more : {r : ℕ} → j < e.size.count → r ≡ place_price (turns_in e cols) e.slopes prices j → r ≤ most_price → SumsTo (turns_in e cols) e.slopes prices (set sums (j + 1) (get_or sums j 0 + r)) (j + 1)
    unfolding places_sum
    sums_more {r} h q l =
        record {
          places = length-set sums (j + 1) v ∙ s.places;
          values = λ k a. value k a (ℕ_discrete k (j + 1));
          most = λ k a. few k a (ℕ_discrete k (j + 1));
        }
      where
        v : ℕ
        v = get_or sums j 0 + r

        value : (k : ℕ) → k ≤ j + 1 → Dec (k ≡ j + 1) → get_or (set sums (j + 1) v) k 0 ≡ sum_over (place_price (turns_in e cols) e.slopes prices) (below k)
        value k a (yes d) = rw (d, get_or-set_same sums (j + 1) v 0 (omega (arith, s.places, w.few)), add-one j) (omega (arith, s.values j (omega arith), q))
        value k a (no d) = get_or-set_other sums (j + 1) k v 0 d ∙ s.values k (omega arith)

        few : (k : ℕ) → k ≤ j + 1 → Dec (k ≡ j + 1) → get_or (set sums (j + 1) v) k 0 ≤ k * most_price
        few k a (yes d) = rw (d, get_or-set_same sums (j + 1) v 0 (omega (arith, s.places, w.few))) (omega (arith, s.most j (omega arith)))
        few k a (no d) = rw (get_or-set_other sums (j + 1) k v 0 d) (s.most k (omega arith))

    -- with what the turn at place j pays
    pub sums_next : (orders : List ℕ) (first : ℕ) {r : ℕ} → Ordered (turns_in e cols) orders → NamedFrom (turns_in e cols) e.size.count first → first ≤ j → j < e.size.count
        → r ≡ get_or prices (e.slopes + get_or orders (2 * most_turns + j) 0) 0 → r ≤ most_price → SumsTo (turns_in e cols) e.slopes prices (set sums (j + 1) (get_or sums j 0 + r)) (j + 1)
    sums_next orders first o f a h q l = sums_more h (named_price e cols orders prices w o j h q (f.named j a h)) l

pub ruleset sums_cases = (sums_start, sums_next)

-- ---- a sum over an order's places is one over all turns

sum_places_lem : (g : ℕ → ℕ) (ts : List ℕ) → sum_over (λ j. g (get_or ts j 0)) (below (length ts)) ≡ sum_over g ts
sum_places_lem g [] = refl
sum_places_lem g (t ∷ ts) =
    let e : length (t ∷ ts) ≡ 1 + length ts = omega arith in
    let whole : sum_over (λ j. g (get_or (t ∷ ts) j 0)) (below (length (t ∷ ts))) ≡ sum_over (λ j. g (get_or (t ∷ ts) j 0)) (below (1 + length ts)) = ap (λ (k : ℕ). sum_over (λ j. g (get_or (t ∷ ts) j 0)) (below k)) e in
    let rest : sum_over (λ u. g (get_or (t ∷ ts) (1 + u) 0)) (below (length ts)) ≡ sum_over (λ u. g (get_or ts u 0)) (below (length ts)) =
    sum_same (λ u. g (get_or (t ∷ ts) (1 + u) 0)) (λ u. g (get_or ts u 0)) (length ts) (λ u l. let z : 1 + u ≡ suc u = omega arith in rw z) in
    omega (arith, whole, rest, sum_split (λ j. g (get_or (t ∷ ts) j 0)) 1 (length ts), sum_places_lem g ts)

pub drivers_sum : (T : Turns) (g : ℕ → ℕ) → sum_over (λ j. g (get_or (turn_order (by_drivers T)) j 0)) (below T.count) ≡ sum_over g (below T.count)
unfolding by_drivers
drivers_sum T g =
    ap (λ (k : ℕ). sum_over (λ j. g (get_or (turn_order (by_drivers T)) j 0)) (below k)) (sym (order_length (by_drivers T)))
    ∙ sum_places_lem g (turn_order (by_drivers T))
    ∙ ordering.order_sum (by_drivers T) g

-- the prices that the limit has in it
module _ (e : Extent) (cols prices sums : List ℕ) (s : SumsTo (turns_in e cols) e.slopes prices sums e.size.count) {a : ℕ} where
  pub both_are : a ≡ slopes_sum prices e.slopes → a + get_or sums e.size.count 0 ≡ price_sum (turns_in e cols) e.slopes prices
  unfolding slopes_sum places_sum place_price place_driver price_sum turns_by by_drivers
  both_are f = rw f (ap (λ (n : ℕ). sum_over (λ k. slope_price prices (k + 1)) (below e.slopes) + n)
      (s.values e.size.count (omega arith) ∙ drivers_sum (turns_by e.size cols) (λ u. cond (ltb 0 ((turns_by e.size cols).driver u)) (turn_price e.slopes prices u) 0)))

  pub both_most : e.size.count ≤ most_turns → a ≤ most_slopes * most_price → a + get_or sums e.size.count 0 ≤ (most_slopes + most_turns) * most_price
  both_most l m = omega (arith, s.most e.size.count (omega arith))

pub priced_slopes : (e : Extent) (cols prices : List ℕ) → Priced e cols prices → e.slopes ≤ most_slopes
priced_slopes e cols prices w = w.few_slopes

pub ruleset both_cases = (both_are, both_most)
