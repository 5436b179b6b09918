-- Tests: what their parts say, and a test of every number below n. None of this is in the source. Assumes nothing.
use mathlib.Core.Path.{◌≡◌, refl, sym, ap, ◌∙◌}
use mathlib.Core.Logic.{◌≢◌, ◌⊎◌, inl, inr}
use mathlib.Core.Bool.{Bool, true, false, not, ◌&&◌, ◌||◌, true≢false, cond}
use Prim.Native.Nat.{ℕ, zero, suc, ◌+◌, ◌≤◌, ◌<◌}
use native.Mathlib.Omega.{arith}
use native.Mathlib.Numerals.{add-one}
use native.Mathlib.Decide.{ℕ_discrete}
use Rattle.lists.specs.Lists.{every}

pub not_both : {b : Bool} → b ≡ true → b ≡ false → ⊥
not_both p q = true≢false (sym p ∙ q)

pub never : {A : Type 0} → false ≡ true → A
never e = absurd (true≢false (sym e))

-- a test that cannot pass fails
pub fails : (b : Bool) → (b ≡ true → ⊥) → b ≡ false
fails true h = absurd (h refl)
fails false h = refl

pub refuted : (b : Bool) → (b ≡ true → ⊥) → not b ≡ true
refuted b h = rw (fails b h)

-- two tests that pass together
pub same_tests : (a b : Bool) → (a ≡ true → b ≡ true) → (b ≡ true → a ≡ true) → a ≡ b
same_tests true b f g = sym (f refl)
same_tests false b f g = sym (fails b (λ e. not_both (g e) refl))

-- two numbers that cannot differ are equal
pub not_apart : (x y : ℕ) → (x ≢ y → ⊥) → x ≡ y
not_apart x y h = elim (ℕ_discrete x y) [ yes e ↦ e | no d ↦ absurd (h d) ]

-- ---- and, or, not

pub and_1 : (a b : Bool) → (a && b) ≡ true → a ≡ true
and_1 true b e = refl
and_1 false b e = e

pub and_2 : (a b : Bool) → (a && b) ≡ true → b ≡ true
and_2 true b e = e
and_2 false b e = absurd (true≢false (sym e))

pub and_of : (a b : Bool) → a ≡ true → b ≡ true → (a && b) ≡ true
and_of true b e f = f
and_of false b e f = e

pub or_cases : (a b : Bool) → (a || b) ≡ true → (a ≡ true) ⊎ (b ≡ true)
or_cases true b e = inl refl
or_cases false b e = inr e

pub or_1 : (a b : Bool) → a ≡ true → (a || b) ≡ true
or_1 true b e = refl
or_1 false b e = absurd (true≢false (sym e))

pub or_2 : (a b : Bool) → b ≡ true → (a || b) ≡ true
or_2 true b e = refl
or_2 false b e = e

pub or_false_1 : (a b : Bool) → (a || b) ≡ false → a ≡ false
or_false_1 true b e = e
or_false_1 false b e = refl

pub or_false_2 : (a b : Bool) → (a || b) ≡ false → b ≡ false
or_false_2 true b e = absurd (true≢false e)
or_false_2 false b e = e

-- of two tests that do not both pass, the second fails where the first passes
pub second_fails : (a b : Bool) → not (a && b) ≡ true → a ≡ true → b ≡ false
second_fails true true e p = sym e
second_fails true false e p = refl
second_fails false b e p = absurd (not_both p refl)

pub not_two : (a b : Bool) → (a ≡ true → b ≡ false) → not (a && b) ≡ true
not_two true b h = ap not (h refl)
not_two false b h = refl

-- the same of three
pub third_fails : (a b c : Bool) → not (a && b && c) ≡ true → a ≡ true → b ≡ true → c ≡ false
third_fails true true true e p q = sym e
third_fails true true false e p q = refl
third_fails true false c e p q = absurd (not_both q refl)
third_fails false b c e p q = absurd (not_both p refl)

pub not_three : (a b c : Bool) → (a ≡ true → b ≡ true → c ≡ false) → not (a && b && c) ≡ true
not_three true true c h = ap not (h refl refl)
not_three true false c h = refl
not_three false b c h = refl

pub and_false : (b : Bool) → (b && false) ≡ false
and_false true = refl
and_false false = refl

-- a number, or none, by a test
pub cond_most : (b : Bool) {x top : ℕ} → x ≤ top → cond b x 0 ≤ top
cond_most true h = h
cond_most false h = omega arith

-- ---- every number below n

pub every_at : (p : ℕ → Bool) (n : ℕ) → every p n ≡ true → (t : ℕ) → t < n → p t ≡ true
unfolding every
every_at p zero e t h = absurd (omega arith)
every_at p (suc n) e t h = go (ℕ_discrete t n) (every_at p n (and_2 (p n) (every p n) e) t)
  where
    go : Dec (t ≡ n) → (t < n → p t ≡ true) → p t ≡ true
    go (yes q) ih = ap p q ∙ and_1 (p n) (every p n) e
    go (no q) ih = ih (omega arith)

pub every_of : (p : ℕ → Bool) (n : ℕ) → ((t : ℕ) → t < n → p t ≡ true) → every p n ≡ true
unfolding every
every_of p zero h = refl
every_of p (suc n) h = and_of (p n) (every p n) (h n (omega arith)) (every_of p n (λ t l. h t (omega arith)))

pub every_not : (p : ℕ → Bool) (n : ℕ) → every p n ≡ false → (t : ℕ) × (t < n) × (p t ≡ false)
unfolding every
every_not p zero e = absurd (not_both refl e)
every_not p (suc n) e = go (p n) refl e (every_not p n)
  where
    go : (b : Bool) → p n ≡ b → (b && every p n) ≡ false → (every p n ≡ false → (t : ℕ) × (t < n) × (p t ≡ false)) → (t : ℕ) × (t < suc n) × (p t ≡ false)
    go true q e ih = let r = ih e in (r.0, omega (arith, r.1), r.2)
    go false q e ih = (n, omega arith, q)

pub every_fails : (p : ℕ → Bool) (n t : ℕ) → t < n → p t ≡ false → every p n ≡ false
every_fails p n t l e = fails (every p n) (λ q. not_both (every_at p n q t l) e)

pub every_same : (p q : ℕ → Bool) (n : ℕ) → ((t : ℕ) → t < n → p t ≡ q t) → every p n ≡ every q n
unfolding every
every_same p q zero h = refl
every_same p q (suc n) h = rw (h n (omega arith), every_same p q n (λ t l. h t (omega arith)))

-- a fact of every number below i, and of i
pub up_to : (P : ℕ → Type 0) (i : ℕ) → ((t : ℕ) → t < i → P t) → P i → (t : ℕ) → t < suc i → P t
up_to P i h p t l = elim (ℕ_discrete t i) [ yes q ↦ rw q p | no q ↦ h t (omega arith) ]

-- ---- a test of every number, as far as a loop has come

module _ (p : ℕ → Bool) (t : ℕ) where
  pub every_more : p t ≡ true → every p t ≡ true → every p (t + 1) ≡ true
  unfolding every
  every_more e h = rw (add-one, e) h

  pub every_done : {n : ℕ} → n ≤ t → t ≤ n → every p t ≡ true → true ≡ every p n
  every_done {n} h l i = let q : t ≡ n = omega arith in sym (rw q at i)
