-- An entry's order of refusal is a list of causes, and what it gives is the first cause that is there (document 01: what the box says). Assumes nothing.
use Rattle.std.specs.Prelude.{◌≡◌, Bool, true, cond, List, [], ◌∷◌, ℕ, zero, suc, ◌<◌}

-- a number, and whether its cause is there
pub record Cause : Type 0 where
  pub number : ℕ
  pub there : Bool

infix 90 ◌when◌
-- a number and its test
abbrev pub ◌when◌ : ℕ → Bool → Cause
k when b = record { number = k; there = b }

-- the number of the first cause that is there, 0 if none is
unfoldable pub first_of : List Cause → ℕ
first_of [] = 0
first_of (c ∷ cs) = let rest = first_of cs in cond c.there c.number rest

-- ---- as statements

-- at place r of the order, a cause with number k is there
pub data There : List Cause → ℕ → ℕ → Type 0 where
  here : {c : Cause} {cs : List Cause} → c.there ≡ true → There (c ∷ cs) c.number zero
  later : {c : Cause} {cs : List Cause} {k r : ℕ} → There cs k r → There (c ∷ cs) k (suc r)

-- of causes at their places, the first has number k
pub record FirstAmong (Causes : ℕ → ℕ → Type 0) (k : ℕ) : Type 0 where
  pub place : ℕ
  pub cause : Causes k place
  pub none_before : (j r : ℕ) → r < place → Causes j r → ⊥

-- the first cause that is there has number k
abbrev pub First : List Cause → ℕ → Type 0
First cs k = FirstAmong (There cs) k
