-- The order of steps by its cases, each premise in the form in which the code's calls and tests leave it. Assumes nothing.
use Prim.Native.Nat.{ℕ, zero, suc, ◌+◌, ◌<◌, ◌≤◌}
use mathlib.Core.Path.{◌≡◌, refl, sym, ◌∙◌, ap}
use mathlib.Core.List.{List}
use mathlib.Core.Bool.{Bool, true, false, not, ◌&&◌, ◌||◌}
use native.Mathlib.Omega.{arith}
use native.Mathlib.Numerals.{add-one}
use native.Mathlib.Decide.{ℕ_discrete}
use lib.IntN.{ℤ}
use lib.Dec.{ltb}
use lib.ListN.{length}
use borrow.Author.Tests.{eq-eqb, ne_eqb, lt-ltb, le-ltb}
use Rattle.lists.specs.Lists.{every}
use Rattle.lists.proofs.Bools.{every_of, not_three}
use Rattle.model.specs.Turns.{Turns, one_groomer, one_driver}
use Rattle.model.specs.Steps.{is_open, left}
use Rattle.model.specs.Rules.{no_earlier, right}
use Rattle.instance.specs.declared.ways.Row.{Row}
use Rattle.instance.specs.declared.ways.Ways.{Ways}
use Rattle.instance.specs.declared.columns.Size.{Size}
use Rattle.instance.specs.Ways.{shared_of}
use Rattle.instance.specs.Columns.{row_in, turns_by}
use Rattle.instance.proofs.Rows.{count_is, rows_groomer_is, rows_driver_is, end_at}
use Rattle.instance.specs.Placing.{EndsRise}
use Rattle.local_ratio.specs.Bounds.{ClosedTo}
use Rattle.local_ratio.specs.Below.{earliest_below}

-- ---- one turn

pub earlier_is : (p : Size) (cols : List ℕ) (s : List ℤ) (j t : ℕ) {o : Bool} {x y : Row} {w : Ways}
    → j < p.count → t < p.count → o ≡ is_open s t → x ≡ row_in cols j → y ≡ row_in cols t → w ≡ shared_of x y → not (o && (w.groomer || w.driver) && ltb y.end x.end) ≡ no_earlier (turns_by p cols) s j t
unfolding no_earlier
earlier_is p cols s j t h k e f g q = rw (e, rows_groomer_is p cols j t h k f g q, rows_driver_is p cols j t h k f g q, end_at p cols j h f, end_at p cols t k g)

-- ---- all turns

-- closed turns are none of them
closed_not : (T : Turns) (s : List ℤ) (j t : ℕ) → is_open s t ≡ false → no_earlier T s j t ≡ true
unfolding no_earlier
closed_not T s j t e = rw e

pub earliest_from : (T : Turns) (s : List ℤ) (j t : ℕ) → ClosedTo t s → true ≡ earliest_below T s j t
unfolding earliest_below
earliest_from T s j t c = sym (every_of (no_earlier T s j) t (λ u l. closed_not T s j u (c.closed u l)))

turned : (a b : Bool) → (a && b) ≡ (b && a)
turned true true = refl
turned true false = refl
turned false true = refl
turned false false = refl

pub earliest_more : (T : Turns) (s : List ℤ) (j t : ℕ) {r all : Bool} → r ≡ no_earlier T s j t → all ≡ earliest_below T s j t → (all && r) ≡ earliest_below T s j (t + 1)
unfolding earliest_below every
earliest_more T s j t {r} {all} e f = turned all r ∙ rw (add-one, e, f)

-- from j on no turn ends earlier
later_not : (T : Turns) (s : List ℤ) (j k : ℕ) → EndsRise T → j ≤ k → k < T.count → no_earlier T s j k ≡ true
unfolding no_earlier
later_not T s j k r h l = not_three (is_open s k) (one_groomer T j k || one_driver T j k) (ltb (T.end k) (T.end j)) (λ o g. le-ltb (T.end k) (T.end j) (r.rise j k h l))

-- a test that passes from t on
every_rest : (p : ℕ → Bool) (t n : ℕ) → t ≤ n → ((k : ℕ) → t ≤ k → k < n → p k ≡ true) → every p t ≡ every p n
unfolding every
every_rest p t zero h f = let q : t ≡ 0 = omega arith in rw q
every_rest p t (suc n) h f = go (ℕ_discrete t (suc n)) (λ l. every_rest p t n l (λ k a b. f k a (omega arith)))
  where
    go : Dec (t ≡ suc n) → (t ≤ n → every p t ≡ every p n) → every p t ≡ (p n && every p n)
    go (yes q) ih = ap (every p) q
    go (no q) ih = rw (f n (omega arith) (omega arith)) (ih (omega arith))

pub earliest_done : (p : Size) (cols : List ℕ) (s : List ℤ) (j t : ℕ) {all : Bool} → EndsRise (turns_by p cols) → j ≤ t → t ≤ p.count → all ≡ earliest_below (turns_by p cols) s j t → all ≡ earliest_below (turns_by p cols) s j p.count
unfolding earliest_below
earliest_done p cols s j t r l m e = e ∙ every_rest (no_earlier (turns_by p cols) s j) t p.count m (λ k a b. later_not (turns_by p cols) s j k r (omega arith) (omega (arith, count_is p cols)))

pub earliest_inside : {s : List ℤ} {t n : ℕ} → ClosedTo t s → length s ≡ n → t ≤ n
earliest_inside c e = omega (arith, c.within)

pub ruleset earliest_cases = (earliest_from, earliest_more, earliest_done, earliest_inside)

-- ---- a step

module _ (p : Size) (cols : List ℕ) (s : List ℤ) (j a : ℕ) where
  pub right_outside : p.count ≤ j → false ≡ right (turns_by p cols) s (record { turn = j; amount = a })
  unfolding right
  right_outside h = rw (count_is p cols, le-ltb j p.count h)

  module _ {o : Bool} (h : j < p.count) (e : o ≡ is_open s j) where
    pub right_closed : o ≡ false → false ≡ right (turns_by p cols) s (record { turn = j; amount = a })
    unfolding right
    right_closed f = rw (count_is p cols, lt-ltb j p.count h, ← e, f)

    module _ {l : ℕ} (f : o ≡ true) (g : l ≡ left s j) where
      pub right_amount : (a ≡ l → ⊥) → false ≡ right (turns_by p cols) s (record { turn = j; amount = a })
      unfolding right
      right_amount k = rw (count_is p cols, lt-ltb j p.count h, ← e, f, ← g, ne_eqb a l k)

      pub right_earliest : {r : Bool} → a ≡ l → r ≡ earliest_below (turns_by p cols) s j p.count → r ≡ right (turns_by p cols) s (record { turn = j; amount = a })
      unfolding right earliest_below turns_by
      right_earliest k m = rw (lt-ltb j p.count h, ← e, f, ← g, eq-eqb a l k) m

pub ruleset right_cases = (right_outside, right_closed, right_amount, right_earliest)
