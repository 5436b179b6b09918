-- Numbers in decimal (document 01: the program slopes). Assumes nothing.
use Rattle.std.specs.Prelude.{ℕ, zero, suc, ◌+◌, ◌-◌, ◌*◌, ◌/◌, ◌%◌, ◌≤◌, ◌<◌, ◌≡◌, ◌≢◌, ◌⊎◌, true, false, List, [], ◌∷◌, ◌++◌, ltb, length, get_or}
use Rattle.lists.specs.Lists.{All}

-- digit d as a character: those of the digits follow each other
abbrev pub digit : ℕ → ℕ
digit d = d + 48

-- the digits of x, in at most f places: a digit alone, or those of its tenth and then the last one
unfoldable pub decimal_in : ℕ → ℕ → List ℕ
decimal_in zero x = []
decimal_in (suc f) x = elim (ltb x 10) [ true ↦ digit x ∷ [] | false ↦ decimal_in f (x / 10) ++ (digit (x % 10) ∷ []) ]

-- x has at most x + 1 places, so that these are enough
unfoldable pub decimal : ℕ → List ℕ
decimal x = decimal_in (suc x) x

-- a number of 32 bits has no more
abbrev pub most_digits : ℕ
most_digits = 10

-- ---- as statements

-- the number that characters of digits make, after a number that stands before them
abbrev pub number_from : ℕ → List ℕ → ℕ
number_from before [] = before
number_from before (c ∷ cs) = number_from (before * 10 + (c - 48)) cs

-- the characters spell x: digits only, of this value, and no zero in front of others
pub record Spells (x : ℕ) (cs : List ℕ) : Type 0 where
  pub digits : All (λ c. (48 ≤ c) × (c < 58)) cs
  pub value : number_from 0 cs ≡ x
  pub short : (length cs ≡ 1) ⊎ (get_or cs 0 48 ≢ 48)
