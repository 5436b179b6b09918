-- Numbers of one, two or four bytes, high byte first, and lists of bytes (document 01: the sheet). Assumes nothing.
use Rattle.std.specs.Prelude.{ℕ, zero, suc, ◌+◌, ◌*◌, ◌/◌, ◌%◌, ◌^◌, ◌<◌, List, [], ◌∷◌, get_or, set}

-- the low k bytes of x, high byte first
abbrev pub bytes_of : ℕ → ℕ → List ℕ
bytes_of zero x = []
bytes_of (suc k) x = x / 256 ^ k % 256 ∷ bytes_of k x

-- the number that bytes make, after a number that stands before them
abbrev pub value_from : ℕ → List ℕ → ℕ
value_from before [] = before
value_from before (b ∷ bs) = value_from (before * 256 + b) bs

-- the number that bytes make
abbrev pub value_of : List ℕ → ℕ
value_of bs = value_from 0 bs

-- the k bytes from a place on; past the end they read as 0
abbrev pub bytes_at : List ℕ → ℕ → ℕ → List ℕ
bytes_at s at zero = []
bytes_at s at (suc k) = get_or s at 0 ∷ bytes_at s (at + 1) k

-- the number in the k bytes from a place on
abbrev pub value_at : List ℕ → ℕ → ℕ → ℕ
value_at s at k = value_of (bytes_at s at k)

-- a list with values put into it from a place on
abbrev pub puts : List ℕ → ℕ → List ℕ → List ℕ
puts l i [] = l
puts l i (a ∷ vs) = puts (set l i a) (i + 1) vs

-- a list of bytes: each number is below 256
pub data Bytes : List ℕ → Type 0 where
  none : Bytes []
  more : {b : ℕ} {bs : List ℕ} → b < 256 → Bytes bs → Bytes (b ∷ bs)
