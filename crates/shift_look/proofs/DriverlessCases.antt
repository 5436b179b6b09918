-- Turns of which none names a driver, by cases in the form in which the code leaves them. Assumes nothing.
use Prim.Native.Nat.{ℕ, zero, suc, ◌+◌, ◌-◌, ◌≤◌, ◌<◌, max}
use mathlib.Core.Path.{◌≡◌, refl, sym, ap, ◌∙◌}
use mathlib.Core.Bool.{Bool, true, false, cond}
use mathlib.Core.List.{List}
use native.Mathlib.Omega.{arith}
use native.Mathlib.Numerals.{add-one}
use native.Mathlib.Decide.{ℕ_discrete}
use borrow.Author.Tests.{lt-ltb, ltb-false}
use lib.Dec.{ltb}
use lib.ListN.{length, get_or}
use Rattle.lists.proofs.Sums.{sum_zero, all_below}
use Rattle.model.specs.Turns.{Turns, one_driver, by_driver, NoDrivers}
use Rattle.instance.specs.declared.ways.Row.{Row}
use Rattle.instance.specs.declared.columns.Size.{Size}
use Rattle.instance.specs.Columns.{row_in, turns_by}
use Rattle.instance.proofs.Rows.{count_is, slope_at}
use Rattle.best_spec.specs.Table.{best_worth}
use Rattle.best_table.specs.OrderAndTable.{InTurnOrder, Befores, Chained, Filled}
use Rattle.limit_spec.specs.Prices.{slope_price, turn_price, pays_turn, paid_by, counts_for, price_sum}
use Rattle.shift_look.specs.declared.Extent.{Extent}
use Rattle.shift_look.specs.OrdersAndCounts.{counted_turns, turns_in, slopes_sum, greatest_driver, Priced, CountsTo}
use Rattle.shift_look.proofs.SumCases.{driver_at}
use Rattle.shift_look.proofs.CountCases.{count_is_left}
use Rattle.shift_look.proofs.LookCases.{table_chained, table_first}

-- ---- the greatest driver

module _ (p : Size) (cols : List ℕ) where
  pub greatest_start : 0 ≡ greatest_driver (turns_by p cols) 0
  unfolding greatest_driver
  greatest_start = refl

  pub greatest_more : (i g : ℕ) {a : Row} {r : ℕ} → i < p.count → a ≡ row_in cols i → g ≡ greatest_driver (turns_by p cols) i → r ≡ max a.driver g → r ≡ greatest_driver (turns_by p cols) (i + 1)
  unfolding greatest_driver
  greatest_more i g h ea e q = rw (add-one, q, e, driver_at (record { size = p; slopes = 0 }) cols i h ea) refl

pub ruleset greatest_cases = (greatest_start, greatest_more)

greatest_above : (T : Turns) (i t : ℕ) → t < i → T.driver t ≤ greatest_driver T i
unfolding greatest_driver
greatest_above T zero t h = absurd (omega arith)
greatest_above T (suc i) t h = go (ℕ_discrete t i) (greatest_above T i t)
  where
    go : Dec (t ≡ i) → (t < i → T.driver t ≤ greatest_driver T i) → T.driver t ≤ max (T.driver i) (greatest_driver T i)
    go (yes e) ih = rw e (omega arith)
    go (no d) ih = omega (arith, ih (omega arith))

-- whether there is one, by the first turn or by all of them
module _ (p : Size) (cols : List ℕ) where
  pub any_none : p.count ≡ 0 → false ≡ ltb 0 (greatest_driver (turns_by p cols) p.count)
  unfolding greatest_driver
  any_none e = rw e refl

  pub any_first : {a : Row} → (p.count ≡ 0 → ⊥) → a ≡ row_in cols 0 → 0 < a.driver → true ≡ ltb 0 (greatest_driver (turns_by p cols) p.count)
  any_first {a} n ea h =
      let l : 0 < p.count = omega (arith, n) in
      sym (lt-ltb 0 (greatest_driver (turns_by p cols) p.count) (omega (arith, h, driver_at (record { size = p; slopes = 0 }) cols 0 l ea, greatest_above (turns_by p cols) p.count 0 l)))

pub ruleset any_cases = (any_none, any_first)

-- where there is none, no turn names one
pub none_named : (e : Extent) (cols : List ℕ) {r : Bool} → r ≡ false → r ≡ ltb 0 (greatest_driver (turns_by e.size cols) e.size.count) → NoDrivers (turns_in e cols)
none_named e cols z u t h =
    let q : ltb 0 (greatest_driver (turns_by e.size cols) e.size.count) ≡ false = sym u ∙ z in
    omega (arith, ltb-false 0 (greatest_driver (turns_by e.size cols) e.size.count) q, greatest_above (turns_by e.size cols) e.size.count t (omega (arith, count_is e.size cols)))

-- ---- what a turn pays

pays_not : (T : Turns) (u t : ℕ) → T.driver u ≡ 0 → pays_turn T u t ≡ false
unfolding pays_turn by_driver one_driver
pays_not T u t e = rw e

module _ (T : Turns) (slopes : ℕ) (prices : List ℕ) (none : NoDrivers T) where
  paid_slope : (t : ℕ) → paid_by T slopes prices t ≡ slope_price prices (T.slope t)
  unfolding paid_by
  paid_slope t = let z = sum_zero (λ u. cond (pays_turn T u t) (turn_price slopes prices u) 0) (all_below T.count (λ u l. rw (pays_not T u t (none u l)))) in omega (arith, z)

  prices_slopes : price_sum T slopes prices ≡ slopes_sum prices slopes
  unfolding price_sum slopes_sum
  prices_slopes = let z = sum_zero (λ u. cond (ltb 0 (T.driver u)) (turn_price slopes prices u) 0) (all_below T.count (λ u l. rw (none u l))) in omega (arith, z)

module _ (e : Extent) (cols prices : List ℕ) (none : NoDrivers (turns_in e cols)) where
  pub slope_counts : (t : ℕ) {a : Row} {x r : ℕ} → t < e.size.count → a ≡ row_in cols t → x ≡ get_or prices (a.slope - 1) 0 → r ≡ a.worth - x → r ≡ counts_for (turns_in e cols) e.slopes prices t
  unfolding slope_price
  slope_counts t {a} {x} h ea ex er =
      let q : get_or prices (a.slope - 1) 0 ≡ get_or prices ((turns_in e cols).slope t - 1) 0 = ap (λ (k : ℕ). get_or prices (k - 1) 0) (slope_at e.size cols t h ea) in
      count_is_left e cols prices t h ea (ex ∙ q ∙ sym (paid_slope (turns_in e cols) e.slopes prices none t)) er

  module _ (w : Priced e cols prices) (t : ℕ) (h : t < e.size.count) {a : Row} (ea : a ≡ row_in cols t) where
    pub slope_above : 1 ≤ a.slope
    slope_above = omega (arith, slope_at e.size cols t h ea, w.numbers t h)

    pub slope_listed : a.slope - 1 < length prices
    slope_listed = omega (arith, slope_at e.size cols t h ea, w.numbers t h, w.list)

  -- ---- the limit

  module _ (w : Priced e cols prices) (orders counts worths firsts : List ℕ) (o : InTurnOrder (turns_in e cols) orders) (b : Befores (turns_in e cols) orders e.size.count) (c : CountsTo (turns_in e cols) e.slopes prices counts e.size.count) where
    pub driverless_chained : Chained e.size.count orders counts
    driverless_chained = table_chained e cols prices w.few orders o b counts c

    module _ (f : Filled e.size.count orders counts 0 worths firsts) {a : ℕ} where
      pub driverless_limit : a ≡ slopes_sum prices e.slopes → a + get_or worths 0 0 ≡ price_sum (turns_in e cols) e.slopes prices + best_worth (counted_turns (turns_in e cols) e.slopes prices)
      driverless_limit q = rw (q, prices_slopes (turns_in e cols) e.slopes prices none, table_first e cols prices w.few orders o b counts c worths firsts f)

-- the prices that the limit has in it are those of the slopes
pub driverless_prices : (e : Extent) (cols prices : List ℕ) {r : Bool} {a : ℕ} → r ≡ false → r ≡ ltb 0 (greatest_driver (turns_by e.size cols) e.size.count) → a ≡ slopes_sum prices e.slopes → a ≡ price_sum (turns_in e cols) e.slopes prices
driverless_prices e cols prices z u q = q ∙ sym (prices_slopes (turns_in e cols) e.slopes prices (none_named e cols z u))

pub ruleset slope_count_cases = (slope_counts, slope_above, slope_listed)

pub ruleset driverless_cases = (driverless_chained, driverless_limit)
