-- A number below a power of ten has no more digits than the power's exponent. Assumes nothing.
use Prim.Native.Nat.{ℕ, zero, suc, ◌/◌, ◌%◌, ◌^◌, ◌<◌, ◌≤◌}
use mathlib.Core.List.{[], ◌∷◌}
use native.Mathlib.Omega.{arith}
use native.Mathlib.Decide.{dec_lt}
use lib.ListN.{length, length-append}
use Rattle.text.specs.Decimal.{digit, decimal}
use Rattle.text.proofs.Digits.{decimal_one, decimal_more}

pub decimal_width : (k x : ℕ) → x < 10 ^ k → 1 ≤ k → length (decimal x) ≤ k
decimal_width zero x h l = absurd (omega arith)
decimal_width (suc k) x h l = go (dec_lt x 10) (λ p. decimal_width k (x / 10) (omega arith) p)
  where
    -- two digits or more: a place to the left of the last one
    left : (j : ℕ) → 10 ≤ x → x < 10 ^ suc j → 1 ≤ j
    left zero m p = absurd (omega arith)
    left (suc j) m p = omega arith

    go : Dec (x < 10) → (1 ≤ k → length (decimal (x / 10)) ≤ k) → length (decimal x) ≤ suc k
    go (yes m) ih = rw (decimal_one x m) (omega arith)
    go (no m) ih =
        let p : 10 ≤ x = omega arith in
        rw (decimal_more x p) (omega (arith, ih (left k p h), length-append (decimal (x / 10)) (digit (x % 10) ∷ [])))
