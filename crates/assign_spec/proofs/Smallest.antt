-- The least number that passes a test, and the greatest number of a list. Assumes nothing.
use mathlib.Core.Path.{◌≡◌, refl, ap, ◌∙◌}
use mathlib.Core.Bool.{Bool, true, false, cond}
use mathlib.Core.List.{List, [], ◌∷◌}
use Prim.Native.Nat.{ℕ, zero, suc, ◌+◌, ◌≤◌, ◌<◌, max}
use native.Mathlib.Omega.{arith}
use native.Mathlib.Decide.{dec_lt, ℕ_discrete}
use lib.ListN.{length, set}
use Rattle.lists.proofs.Bools.{not_both}
use Rattle.assign_spec.specs.Numbering.{number_in, first_from, greatest}

-- ---- the least that passes

module _ (p : ℕ → Bool) where
  -- what the search comes to
  record Found (k more r : ℕ) : Type 0 where
    from : k ≤ r
    to : r ≤ k + more
    passes : r < k + more → p r ≡ true
    below : (j : ℕ) → k ≤ j → j < r → p j ≡ false

  found : (k more : ℕ) → Found k more (first_from p k more)
  unfolding first_from
  found k zero = record { from = omega arith; to = omega arith; passes = λ l. absurd (omega arith); below = λ j a b. absurd (omega arith) }
  found k (suc more) = go (p k) refl (found (suc k) more)
    where
      go : (b : Bool) → p k ≡ b → Found (suc k) more (first_from p (suc k) more) → Found k (suc more) (cond b k (first_from p (suc k) more))
      go true e f = record { from = omega arith; to = omega arith; passes = λ l. e; below = λ j a b. absurd (omega arith) }
      go false e f = record { from = omega (arith, f.from); to = omega (arith, f.to); passes = λ l. f.passes (omega arith); below = λ j a b. at j b (ℕ_discrete j k) a }
        where
          at : (j : ℕ) → j < first_from p (suc k) more → Dec (j ≡ k) → k ≤ j → p j ≡ false
          at j b (yes q) a = ap p q ∙ e
          at j b (no q) a = f.below j (omega arith) b

  pub first_from_lem : (k more : ℕ) → k ≤ first_from p k more
  first_from_lem k more = (found k more).from

  pub first_below : (k more j : ℕ) → k ≤ j → j < first_from p k more → p j ≡ false
  first_below k more = (found k more).below

  -- it is no greater than one that passes
  pub first_least : (k more j : ℕ) → k ≤ j → p j ≡ true → first_from p k more ≤ j
  first_least k more j a e = elim (dec_lt j (first_from p k more)) [ yes l ↦ absurd (not_both e (first_below k more j a l)) | no l ↦ omega arith ]

  -- it passes, where one within reach does
  pub first_passes : (k more j : ℕ) → k ≤ j → j ≤ k + more → p j ≡ true → p (first_from p k more) ≡ true
  first_passes k more j a b e = go (dec_lt (first_from p k more) (k + more))
    where
      go : Dec (first_from p k more < k + more) → p (first_from p k more) ≡ true
      go (yes l) = (found k more).passes l
      go (no l) = let q : first_from p k more ≡ j = omega (arith, (found k more).to, first_least k more j a e) in rw q e

  -- and it is the only such
  pub first_is : (k more j : ℕ) → k ≤ j → p j ≡ true → ((i : ℕ) → k ≤ i → i < j → p i ≡ false) → j ≤ k + more → first_from p k more ≡ j
  first_is k more j a e b l = go (dec_lt (first_from p k more) j)
    where
      go : Dec (first_from p k more < j) → first_from p k more ≡ j
      go (yes h) = absurd (not_both (first_passes k more j a l e) (b (first_from p k more) (first_from_lem k more) h))
      go (no h) = omega (arith, first_least k more j a e)

-- ---- the greatest

pub greatest_above : (xs : List ℕ) (t : ℕ) → number_in xs t ≤ greatest xs
unfolding greatest
greatest_above [] t = omega arith
greatest_above (x ∷ xs) zero = omega arith
greatest_above (x ∷ xs) (suc t) = omega (arith, greatest_above xs t)

pub greatest_there : (xs : List ℕ) → 0 < length xs → (t : ℕ) × (t < length xs) × (number_in xs t ≡ greatest xs)
unfolding greatest
greatest_there [] h = absurd (omega arith)
greatest_there (x ∷ xs) h = go (dec_lt x (greatest xs)) (dec_lt 0 (length xs)) (greatest_there xs)
  where
    empty : (ys : List ℕ) → (0 < length ys → ⊥) → greatest ys ≡ 0
    empty [] n = refl
    empty (y ∷ ys) n = absurd (n (omega arith))

    go : Dec (x < greatest xs) → Dec (0 < length xs) → (0 < length xs → (t : ℕ) × (t < length xs) × (number_in xs t ≡ greatest xs)) → (t : ℕ) × (t < suc (length xs)) × (number_in (x ∷ xs) t ≡ max x (greatest xs))
    go (yes l) (yes m) ih = let r = ih m in (suc r.0, omega (arith, r.1), omega (arith, r.2))
    go (yes l) (no m) ih = absurd (omega (arith, empty xs m))
    go (no l) d ih = (0, omega arith, omega arith)

pub greatest_to : (xs : List ℕ) (m : ℕ) → ((t : ℕ) → number_in xs t ≤ m) → greatest xs ≤ m
unfolding greatest
greatest_to [] m h = omega arith
greatest_to (x ∷ xs) m h = omega (arith, h 0, greatest_to xs m (λ t. h (suc t)))

-- one that was 0 is put
pub greatest_set : (xs : List ℕ) (t v : ℕ) → t < length xs → number_in xs t ≡ 0 → greatest (set xs t v) ≡ max v (greatest xs)
unfolding greatest
greatest_set [] t v h e = absurd (omega arith)
greatest_set (x ∷ xs) zero v h e = omega arith
greatest_set (x ∷ xs) (suc t) v h e = let ih : greatest (set xs t v) ≡ max v (greatest xs) = greatest_set xs t v (omega arith) e in omega arith
