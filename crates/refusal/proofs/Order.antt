-- Exactly the first cause in the order gives the number: shown once, for every list of causes. Assumes nothing.
use mathlib.Core.Path.{◌≡◌, refl, sym, ◌∙◌}
use mathlib.Core.Bool.{Bool, true, false, cond, ◌&&◌, true≢false}
use mathlib.Core.List.{List, [], ◌∷◌, ◌++◌}
use mathlib.Core.Logic.{◌⊎◌, inl, inr, ⊎_elim, ◌↔◌}
use Prim.Native.Nat.{ℕ, suc, ◌<◌}
use native.Mathlib.Omega.{arith}
use native.Mathlib.Decide.{ℕ_discrete}
use lib.Dec.{ltb}
use borrow.Author.Tests.{ltb-true}
use Rattle.lists.proofs.Bools.{and_1, and_2}
use Rattle.refusal.specs.Cause.{Cause, first_of, There, here, later, FirstAmong, First, ◌when◌}

-- every number in the list is above 0, which stands for none
abbrev pub numbered : List Cause → Bool
numbered [] = true
numbered (c ∷ cs) = ltb 0 c.number && numbered cs

never : {A : Type 0} → true ≡ false → A
never e = absurd (true≢false e)

pub numbered_append : (a b : List Cause) → numbered a ≡ true → numbered b ≡ true → numbered (a ++ b) ≡ true
numbered_append [] b p q = q
numbered_append (c ∷ a) b p q =
    rw (and_1 (ltb 0 c.number) (numbered a) p) (numbered_append a b (and_2 (ltb 0 c.number) (numbered a) p) q)

-- ---- one list after another

-- where the first list has a cause, its number is the answer
pub first_stops : (a b : List Cause) (k : ℕ) → first_of a ≡ k → (k ≡ 0 → ⊥) → first_of (a ++ b) ≡ k
unfolding first_of
first_stops [] b k e z = absurd (z (sym e))
first_stops (c ∷ a) b k e z = go c.there e (λ f. first_stops a b k f z)
  where
    go : (t : Bool) → cond t c.number (first_of a) ≡ k → (first_of a ≡ k → first_of (a ++ b) ≡ k) → cond t c.number (first_of (a ++ b)) ≡ k
    go true e ih = e
    go false e ih = ih e

-- where it has none, the second list decides
pub first_goes : (a b : List Cause) → numbered a ≡ true → first_of a ≡ 0 → first_of (a ++ b) ≡ first_of b
unfolding first_of
first_goes [] b p e = refl
first_goes (c ∷ a) b p e = go c.there e (first_goes a b (and_2 (ltb 0 c.number) (numbered a) p))
  where
    go : (t : Bool) → cond t c.number (first_of a) ≡ 0 → (first_of a ≡ 0 → first_of (a ++ b) ≡ first_of b) → cond t c.number (first_of (a ++ b)) ≡ first_of b
    go true e ih = absurd (omega (arith, ltb-true 0 c.number (and_1 (ltb 0 c.number) (numbered a) p)))
    go false e ih = ih e

-- lists with the same first cause have it before the same list too
pub first_append : (a b cs : List Cause) → numbered a ≡ true → numbered b ≡ true → first_of a ≡ first_of b → first_of (a ++ cs) ≡ first_of (b ++ cs)
first_append a b cs p q e = go (ℕ_discrete (first_of b) 0)
  where
    go : Dec (first_of b ≡ 0) → first_of (a ++ cs) ≡ first_of (b ++ cs)
    go (yes z) = first_goes a cs p (e ∙ z) ∙ sym (first_goes b cs q z)
    go (no n) = first_stops a cs (first_of b) e n ∙ sym (first_stops b cs (first_of b) refl n)

-- ---- nothing given: of a cause and those after it, of one list and another

pub clear_cons : (c : Cause) (cs : List Cause) → (c.number ≡ 0 → ⊥) → first_of (c ∷ cs) ≡ 0 → (c.there ≡ false) × (first_of cs ≡ 0)
unfolding first_of
clear_cons c cs z e = go c.there refl e
  where
    go : (t : Bool) → c.there ≡ t → cond t c.number (first_of cs) ≡ 0 → (c.there ≡ false) × (first_of cs ≡ 0)
    go true q e = absurd (z e)
    go false q e = (q, e)

pub clear_append : (a b : List Cause) → numbered a ≡ true → first_of (a ++ b) ≡ 0 → (first_of a ≡ 0) × (first_of b ≡ 0)
unfolding first_of
clear_append [] b p e = (refl, e)
clear_append (c ∷ a) b p e = go c.there e (clear_append a b (and_2 (ltb 0 c.number) (numbered a) p))
  where
    go : (t : Bool) → cond t c.number (first_of (a ++ b)) ≡ 0 → (first_of (a ++ b) ≡ 0 → (first_of a ≡ 0) × (first_of b ≡ 0)) → (cond t c.number (first_of a) ≡ 0) × (first_of b ≡ 0)
    go true e ih = absurd (omega (arith, ltb-true 0 c.number (and_1 (ltb 0 c.number) (numbered a) p)))
    go false e ih = ih e

-- of a list and one cause more
pub clear_last : (a : List Cause) (k : ℕ) (t : Bool) → numbered a ≡ true → (k ≡ 0 → ⊥) → (first_of (a ++ k when t ∷ []) ≡ 0) ↔ ((first_of a ≡ 0) × (t ≡ false))
unfolding first_of
clear_last a k t n z = (
  λ e. let both = clear_append a (k when t ∷ []) n e in (both.0, (clear_cons (k when t) [] z both.1).0),
  λ h. first_goes a (k when t ∷ []) n h.0 ∙ rw h.1,
)

-- ---- the order

pub none_there : {k r : ℕ} → There [] k r → ⊥
none_there = elim [ ]

-- a cause of a list with a head: it is the head's, or stands later
cases : {c : Cause} {cs : List Cause} {k r : ℕ} → There (c ∷ cs) k r → ((c.there ≡ true) × (k ≡ c.number) × (r ≡ 0)) ⊎ ((q : ℕ) × (r ≡ suc q) × There cs k q)
cases (here h) = inl (h, refl, refl)
cases (later {r = q} h) = inr (q, refl, h)

-- nothing is given exactly where no cause is there
pub none_given : (cs : List Cause) → first_of cs ≡ 0 → numbered cs ≡ true → (k r : ℕ) → There cs k r → ⊥
unfolding first_of
none_given [] e p k r h = none_there h
none_given (c ∷ cs) e p k r h = go c.there refl e (cases h) (λ f. none_given cs f (and_2 (ltb 0 c.number) (numbered cs) p) k)
  where
    go : (t : Bool) → c.there ≡ t → cond t c.number (first_of cs) ≡ 0 → ((c.there ≡ true) × (k ≡ c.number) × (r ≡ 0)) ⊎ ((q : ℕ) × (r ≡ suc q) × There cs k q) → (first_of cs ≡ 0 → (q : ℕ) → There cs k q → ⊥) → ⊥
    go true q e w ih = omega (arith, ltb-true 0 c.number (and_1 (ltb 0 c.number) (numbered cs) p))
    go false q e (inl x) ih = never (sym x.0 ∙ q)
    go false q e (inr x) ih = ih e x.0 x.2

pub given_none : (cs : List Cause) → ((k r : ℕ) → There cs k r → ⊥) → first_of cs ≡ 0
unfolding first_of
given_none [] n = refl
given_none (c ∷ cs) n = go c.there refl (given_none cs (λ k r h. n k (suc r) (later h)))
  where
    go : (t : Bool) → c.there ≡ t → first_of cs ≡ 0 → cond t c.number (first_of cs) ≡ 0
    go true q ih = absurd (n c.number 0 (here q))
    go false q ih = ih

-- the number that is given is that of the first cause
pub given_first : (cs : List Cause) (k : ℕ) → first_of cs ≡ k → (k ≡ 0 → ⊥) → First cs k
unfolding first_of
given_first [] k e z = absurd (z (sym e))
given_first (c ∷ cs) k e z = go c.there refl e (λ f. given_first cs k f z)
  where
    go : (t : Bool) → c.there ≡ t → cond t c.number (first_of cs) ≡ k → (first_of cs ≡ k → First cs k) → First (c ∷ cs) k
    go true q e ih = record { place = 0; cause = rw (← e) (here q); none_before = λ j r l h. omega arith }
    go false q e ih = let f = ih e in record { place = suc f.place; cause = later f.cause; none_before = before f }
      where
        before : (f : First cs k) (j r : ℕ) → r < suc f.place → There (c ∷ cs) j r → ⊥
        before f j r l h = ⊎_elim (λ x. never (sym x.0 ∙ q)) (λ x. f.none_before j x.0 (omega arith) x.2) (cases h)

-- and the other way: such a number is the one that is given
there_given : {cs : List Cause} {k p : ℕ} → There cs k p → ((j r : ℕ) → r < p → There cs j r → ⊥) → first_of cs ≡ k
unfolding first_of
there_given (here {c = c} {cs = cs} h) b = rw h
there_given {k = k} (later {c = c} {cs = cs} h) b = go c.there refl (there_given h (λ j r l t. b j (suc r) (omega arith) (later t)))
  where
    go : (t : Bool) → c.there ≡ t → first_of cs ≡ k → cond t c.number (first_of cs) ≡ k
    go true q ih = absurd (b c.number 0 (omega arith) (here q))
    go false q ih = ih

pub first_iff : (cs : List Cause) (k : ℕ) → (k ≡ 0 → ⊥) → (first_of cs ≡ k) ↔ First cs k
first_iff cs k z = (λ e. given_first cs k e z, λ f. there_given f.cause f.none_before)

pub none_iff : (cs : List Cause) → numbered cs ≡ true → (first_of cs ≡ 0) ↔ ((k r : ℕ) → There cs k r → ⊥)
none_iff cs p = (λ e. none_given cs e p, given_none cs)

-- an order of causes and the same in words: what is first in one is first in the other
module _ (cs : List Cause) (Causes : ℕ → ℕ → Type 0) (same : (k r : ℕ) → Causes k r ↔ There cs k r) where
  pub first_same : (k : ℕ) → (k ≡ 0 → ⊥) → (first_of cs ≡ k) ↔ FirstAmong Causes k
  first_same k z = (λ e. to ((first_iff cs k z).0 e), λ f. (first_iff cs k z).1 (from f))
    where
      to : First cs k → FirstAmong Causes k
      to f = record { place = f.place; cause = (same k f.place).1 f.cause; none_before = λ j r l h. f.none_before j r l ((same j r).0 h) }

      from : FirstAmong Causes k → First cs k
      from f = record { place = f.place; cause = (same k f.place).0 f.cause; none_before = λ j r l h. f.none_before j r l ((same j r).1 h) }
