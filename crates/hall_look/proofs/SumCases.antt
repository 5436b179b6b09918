-- Sums of prices from the first minute on, by their cases, each premise in the form in which the code's calls and tests leave it. Assumes nothing.
use Prim.Native.Nat.{ℕ, zero, suc, ◌+◌, ◌-◌, ◌*◌, ◌/◌, ◌≤◌, ◌<◌}
use mathlib.Core.Path.{◌≡◌, refl, ◌∙◌}
use mathlib.Core.List.{List}
use native.Mathlib.Omega.{arith}
use native.Mathlib.Numerals.{add-one}
use native.Mathlib.Decide.{ℕ_discrete}
use lib.ListN.{length, get_or, set, length-set}
use lib.Seq.{get_or-set_same, get_or-set_other}
use Rattle.turn.specs.Turn.{shift_minutes}
use Rattle.instance.specs.declared.ways.Row.{Row}
use Rattle.hall_by_prices_spec.specs.Prices.{minute_price}
use Rattle.limit_spec.specs.Prices.{most_price}
use Rattle.hall_look.specs.Look.{sum_places, prices_below, row_cost, row_counts, MinuteSumsTo, MinuteSums, WindowRow}

pub price_is : (prices : List ℕ) (m : ℕ) {x : ℕ} → x ≡ get_or prices m 0 → x ≡ minute_price prices m
unfolding minute_price
price_is prices m e = e

-- ---- all sums

module _ (prices : List ℕ) where
  pub below_more : (m : ℕ) → prices_below prices (m + 1) ≡ minute_price prices m + prices_below prices m
  unfolding prices_below
  below_more m = rw (add-one m)

  pub below_rises : (d m : ℕ) → prices_below prices m ≤ prices_below prices (m + d)
  below_rises zero m = let e : m + 0 ≡ m = omega arith in rw e (omega arith)
  below_rises (suc d) m =
      let e : m + suc d ≡ (m + d) + 1 = omega arith in
      rw e (omega (arith, below_more (m + d), below_rises d m))

  pub below_to : (m k : ℕ) → m ≤ k → prices_below prices m ≤ prices_below prices k
  below_to m k h = let e : m + (k - m) ≡ k = omega arith in let l = below_rises (k - m) m in (rw e at l)

  module _ (sums : List ℕ) where
    pub sums_start : length sums ≡ sum_places → MinuteSumsTo prices (set sums 0 0) 0 0
    unfolding prices_below
    sums_start l =
        record {
          within = omega arith;
          places = length-set sums 0 0 ∙ l;
          values = λ m h. let z : m ≡ 0 = omega arith in rw z (get_or-set_same sums 0 0 0 (omega arith));
          is = refl;
          most = omega arith;
        }

    pub sums_more : {k sum r : ℕ} → MinuteSumsTo prices sums k sum → k < shift_minutes → r ≡ minute_price prices k → r ≤ most_price → MinuteSumsTo prices (set sums (k + 1) (sum + r)) (k + 1) (sum + r)
    sums_more {k} {sum} {r} s h e l =
        record {
          within = omega arith;
          places = length-set sums (k + 1) (sum + r) ∙ s.places;
          values = λ m q. at m q (ℕ_discrete m (k + 1));
          is = next;
          most = omega (arith, s.most);
        }
      where
        next : sum + r ≡ prices_below prices (k + 1)
        next = omega (arith, s.is, below_more k)

        at : (m : ℕ) → m ≤ k + 1 → Dec (m ≡ k + 1) → get_or (set sums (k + 1) (sum + r)) m 0 ≡ prices_below prices m
        at m q (yes z) = rw z (get_or-set_same sums (k + 1) (sum + r) 0 (omega (arith, s.places)) ∙ next)
        at m q (no z) = get_or-set_other sums (k + 1) m (sum + r) 0 z ∙ s.values m (omega arith)

-- ---- what a row pays and counts for

module _ (prices sums : List ℕ) (s : MinuteSums prices sums) (r : Row) (w : WindowRow r) where
  pub cost_below : get_or sums r.start 0 ≤ get_or sums r.end 0
  cost_below = omega (arith, s.values r.start (omega (arith, w.starts, w.ends)), s.values r.end w.ends, below_to prices r.start r.end (omega (arith, w.starts)))

  pub cost_is : get_or sums r.end 0 - get_or sums r.start 0 ≡ row_cost prices r
  cost_is = rw (s.values r.start (omega (arith, w.starts, w.ends)), s.values r.end w.ends)

  pub cost_most : get_or sums r.end 0 - get_or sums r.start 0 ≤ shift_minutes * most_price
  cost_most = omega (arith, s.values r.end w.ends, below_to prices r.end shift_minutes w.ends, s.most)

  pub counts_are : {x d c y : ℕ} → x ≡ r.worth → d ≡ r.groomer → c ≡ row_cost prices r → y ≡ x - d * c / 16 → y ≡ row_counts prices r
  unfolding row_counts
  counts_are e f g h = rw (h, e, f, g)
