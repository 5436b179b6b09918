-- Causes in words at their places: one alone, one kind after another, and last of all too few lent places. Assumes nothing.
use Rattle.std.specs.Prelude.{ℕ, zero, ◌+◌, ◌<◌}
use Rattle.refusal.specs.Number.{buffer_too_small}

-- the cause P alone, with number n
pub data Only (n : ℕ) (P : Type 0) : ℕ → ℕ → Type 0 where
  only : P → Only n P n zero

-- causes at places below n, and after them others, whose places count from n on
pub data Then (A : ℕ → ℕ → Type 0) (n : ℕ) (B : ℕ → ℕ → Type 0) : ℕ → ℕ → Type 0 where
  before : {k r : ℕ} → A k r → Then A n B k r
  behind : {k r : ℕ} → B k r → Then A n B k (n + r)

-- causes at places below n, and after them all that the lent places are fewer than needed
abbrev pub ThenRoom : (ℕ → ℕ → Type 0) → ℕ → ℕ → ℕ → ℕ → ℕ → Type 0
ThenRoom A n need places = Then A n (Only buffer_too_small (places < need))
