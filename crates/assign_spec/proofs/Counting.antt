-- Counting by partners, and how many different numbers are given. Assumes nothing.
use mathlib.Core.Path.{◌≡◌, refl, sym, ◌∙◌}
use mathlib.Core.Bool.{Bool, true, false, not, cond, ◌&&◌}
use Prim.Native.Nat.{ℕ, zero, suc, ◌+◌, ◌≤◌, ◌<◌}
use native.Mathlib.Omega.{arith}
use native.Mathlib.Decide.{dec_lt, ℕ_discrete}
use lib.Dec.{eqb}
use borrow.Author.Tests.{eqb-true, eq-eqb, not-false, not-true}
use Rattle.lists.specs.Lists.{every, sum_over, below}
use Rattle.lists.proofs.Bools.{and_1, and_2, and_of, not_both, every_at, every_not}
use Rattle.lists.proofs.Sums.{sum_mono, sum_zero, sum_swap, sum_ones, sum_point, at_most_one, all_below, all_of}
use Rattle.lists.specs.Order.{how_many}
use Rattle.assign_spec.specs.Numbering.{different}

-- each of those below n that pass p has a partner below m that passes q, and no two have the same: those that pass p are no more
module _ (p q : ℕ → Bool) (paired : ℕ → ℕ → Bool) (n m : ℕ)
    (partner : (u : ℕ) → u < n → p u ≡ true → (r : ℕ) × (r < m) × (q r ≡ true) × (paired u r ≡ true))
    (alone : (r u v : ℕ) → r < m → u < n → v < n → p u ≡ true → p v ≡ true → paired u r ≡ true → paired v r ≡ true → u ≡ v) where
  abbrev both : ℕ → ℕ → Bool
  both u r = q r && (p u && paired u r)

  at_least : (u : ℕ) → u < n → cond (p u) 1 0 ≤ sum_over (λ r. cond (both u r) 1 0) (below m)
  at_least u l = go (p u) refl
    where
      go : (b : Bool) → p u ≡ b → cond b 1 0 ≤ sum_over (λ r. cond (both u r) 1 0) (below m)
      go true e =
          let (r, h, a, c) = partner u l e in
          rw (and_of (q r) (p u && paired u r) a (and_of (p u) (paired u r) e c)) at (sum_point (λ r. cond (both u r) 1 0) m r h)
      go false e = omega arith

  at_most : (r : ℕ) → r < m → sum_over (λ u. cond (both u r) 1 0) (below n) ≤ cond (q r) 1 0
  at_most r h = go (q r) refl
    where
      go : (b : Bool) → q r ≡ b → sum_over (λ u. cond (both u r) 1 0) (below n) ≤ cond b 1 0
      go true e =
          at_most_one (λ u. both u r) n
          (λ u v a b f g.
          let fu = and_2 (q r) (p u && paired u r) f in
          let fv = and_2 (q r) (p v && paired v r) g in
          alone r u v h a b (and_1 (p u) (paired u r) fu) (and_1 (p v) (paired v r) fv) (and_2 (p u) (paired u r) fu) (and_2 (p v) (paired v r) fv))
      go false e = omega (arith, sum_zero (λ u. cond (both u r) 1 0) (all_of {P = λ u. cond (both u r) 1 0 ≡ 0} (λ u. rw e) (below n)))

  pub partners : how_many p n ≤ how_many q m
  partners =
      omega (
        arith,
        sum_mono (λ u. cond (p u) 1 0) (λ u. sum_over (λ r. cond (both u r) 1 0) (below m)) (all_below n at_least),
        sum_swap (λ u r. cond (both u r) 1 0) (below n) (below m),
        sum_mono (λ r. sum_over (λ u. cond (both u r) 1 0) (below n)) (λ r. cond (q r) 1 0) (all_below m at_most),
      )

-- ---- different numbers

module _ (f : ℕ → ℕ) where
  -- the number of t comes first at t
  abbrev new : ℕ → Bool
  new t = every (λ u. not (eqb (f u) (f t))) t

  -- where the number of t first comes
  first : (t : ℕ) → (bound : ℕ) → t < bound → (r : ℕ) × (r ≤ t) × (new r ≡ true) × (f t ≡ f r)
  first t zero l = absurd (omega arith)
  first t (suc bound) l = go (new t) refl (λ u h. first u bound h)
    where
      go : (b : Bool) → new t ≡ b → ((u : ℕ) → u < bound → (r : ℕ) × (r ≤ u) × (new r ≡ true) × (f u ≡ f r)) → (r : ℕ) × (r ≤ t) × (new r ≡ true) × (f t ≡ f r)
      go true e ih = (t, omega arith, e, refl)
      go false e ih =
          let (u, h, q) = every_not (λ u. not (eqb (f u) (f t))) t e in
          let same = eqb-true (f u) (f t) (not-false (eqb (f u) (f t)) q) in
          let (r, k, n, g) = ih u (omega arith) in
          (r, omega arith, n, sym same ∙ g)

  new_alone : (u v : ℕ) → new u ≡ true → new v ≡ true → f u ≡ f v → u ≡ v
  new_alone u v a b e = go (ℕ_discrete u v) (dec_lt u v)
    where
      never : (x y : ℕ) → x < y → new y ≡ true → f x ≡ f y → ⊥
      never x y l n q = not_both (eq-eqb (f x) (f y) q) (not-true (eqb (f x) (f y)) (every_at (λ u. not (eqb (f u) (f y))) y n x l))

      go : Dec (u ≡ v) → Dec (u < v) → u ≡ v
      go (yes q) d = q
      go (no q) (yes l) = absurd (never u v l b e)
      go (no q) (no l) = absurd (never v u (omega arith) a (sym e))

  -- those that pass a test and have different numbers are no more than the different numbers
  pub different_least : (p : ℕ → Bool) (n : ℕ) → ((u v : ℕ) → u < n → v < n → p u ≡ true → p v ≡ true → f u ≡ f v → u ≡ v) → how_many p n ≤ different f n
  unfolding different
  different_least p n apart =
      partners p new (λ u r. eqb (f u) (f r)) n n
      (λ u l e. let (r, h, k, q) = first u (suc u) (omega arith) in (r, omega arith, k, eq-eqb (f u) (f r) q))
      (λ r u v h a b pu pv eu ev. apart u v a b pu pv (eqb-true (f u) (f r) eu ∙ sym (eqb-true (f v) (f r) ev)))

  -- numbers from 1 to m: no more than m different ones
  pub different_most : (n m : ℕ) → ((u : ℕ) → u < n → (1 ≤ f u) × (f u ≤ m)) → different f n ≤ m
  unfolding different
  different_most n m inside =
      omega (
        arith,
        sum_ones m,
        partners new (λ k. true) (λ u k. eqb (f u) (k + 1)) n m
            (λ u l e. let (j, q) : (k : ℕ) × (f u ≡ k + 1) = before (f u) (inside u l).0 in (j, omega (arith, (inside u l).1), refl, eq-eqb (f u) (j + 1) q))
            (λ k u v h a b nu nv eu ev. new_alone u v nu nv (eqb-true (f u) (k + 1) eu ∙ sym (eqb-true (f v) (k + 1) ev))),
      )
    where
      before : (x : ℕ) → 1 ≤ x → (k : ℕ) × (x ≡ k + 1)
      before zero h = absurd (omega arith)
      before (suc x) h = (x, omega arith)

-- each of the numbers from 1 to m is had by one that passes a test: at least m pass it
pub all_had : (f : ℕ → ℕ) (p : ℕ → Bool) (n m : ℕ) → ((k : ℕ) → k < m → (u : ℕ) × (u < n) × (p u ≡ true) × (f u ≡ k + 1)) → m ≤ how_many p n
all_had f p n m had =
    omega (
      arith,
      sum_ones m,
      partners (λ k. true) p (λ k u. eqb (f u) (k + 1)) m n
          (λ k l e. let (u, h, q, g) = had k l in (u, h, q, eq-eqb (f u) (k + 1) g))
          (λ u j k h a b pj pk ej ek. omega (arith, eqb-true (f u) (j + 1) ej, eqb-true (f u) (k + 1) ek)),
    )
