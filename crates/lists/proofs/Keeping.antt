-- Those of a list of which a test holds. None of this is in the source. Assumes nothing.
use mathlib.Core.Path.{◌≡◌, refl}
use mathlib.Core.Bool.{Bool, true, false, cond}
use mathlib.Core.List.{List, [], ◌∷◌}
use Prim.Native.Nat.{ℕ, ◌+◌, ◌≤◌}
use native.Mathlib.Omega.{arith}
use Rattle.lists.proofs.Sums.{sum_mono, all_of}
use Rattle.lists.proofs.Bools.{cond_most}
use Rattle.lists.specs.Lists.{sum_over, keep, All, none, more}

module _ (p : ℕ → Bool) where
  pub keep_every : {P : ℕ → Type 0} {ts : List ℕ} → All P ts → All P (keep p ts)
  unfolding keep
  keep_every none = none
  keep_every {P} (more {t = t} {ts = ts} h hs) = go (p t) (keep_every hs)
    where
      go : (b : Bool) → All P (keep p ts) → All P (cond b (t ∷ keep p ts) (keep p ts))
      go true ih = more h ih
      go false ih = ih

  pub keep_holds : (ts : List ℕ) → All (λ t. p t ≡ true) (keep p ts)
  unfolding keep
  keep_holds [] = none
  keep_holds (t ∷ ts) = go (p t) refl (keep_holds ts)
    where
      go : (b : Bool) → p t ≡ b → All (λ u. p u ≡ true) (keep p ts) → All (λ u. p u ≡ true) (cond b (t ∷ keep p ts) (keep p ts))
      go true e ih = more e ih
      go false e ih = ih

  pub keep_all : {ts : List ℕ} → All (λ t. p t ≡ true) ts → keep p ts ≡ ts
  unfolding keep
  keep_all none = refl
  keep_all (more {t = t} h hs) = rw (h, keep_all hs)

  pub keep_none : {ts : List ℕ} → All (λ t. p t ≡ false) ts → keep p ts ≡ []
  unfolding keep
  keep_none none = refl
  keep_none (more h hs) = rw h (keep_none hs)

  pub keep_sum : (f : ℕ → ℕ) → ((t : ℕ) → p t ≡ false → f t ≡ 0) → (ts : List ℕ) → sum_over f (keep p ts) ≡ sum_over f ts
  unfolding keep
  keep_sum f z [] = refl
  keep_sum f z (t ∷ ts) = go (p t) refl (keep_sum f z ts)
    where
      go : (b : Bool) → p t ≡ b → sum_over f (keep p ts) ≡ sum_over f ts → sum_over f (cond b (t ∷ keep p ts) (keep p ts)) ≡ f t + sum_over f ts
      go true e ih = omega (arith, ih)
      go false e ih = omega (arith, ih, z t e)

  pub keep_where : (f : ℕ → ℕ) (ts : List ℕ) → sum_over f (keep p ts) ≡ sum_over (λ t. cond (p t) (f t) 0) ts
  unfolding keep
  keep_where f [] = refl
  keep_where f (t ∷ ts) = go (p t) (keep_where f ts)
    where
      go : (b : Bool) → sum_over f (keep p ts) ≡ sum_over (λ t. cond (p t) (f t) 0) ts
          → sum_over f (cond b (t ∷ keep p ts) (keep p ts)) ≡ cond b (f t) 0 + sum_over (λ t. cond (p t) (f t) 0) ts
      go true ih = omega (arith, ih)
      go false ih = omega (arith, ih)

  pub keep_most : (f : ℕ → ℕ) (ts : List ℕ) → sum_over f (keep p ts) ≤ sum_over f ts
  keep_most f ts = omega (arith, keep_where f ts, sum_mono (λ t. cond (p t) (f t) 0) f (all_of (λ t. cond_most (p t) (omega arith)) ts))
