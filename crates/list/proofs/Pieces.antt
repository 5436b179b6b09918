-- Pieces of text put one after another. Assumes nothing.
use Prim.Native.Nat.{ℕ, ◌+◌, ◌≤◌}
use mathlib.Core.Path.{◌≡◌, ◌∙◌, ap}
use mathlib.Core.List.{List, ◌++◌}
use native.Mathlib.Omega.{arith}
use lib.ListN.{length, length-append}
use Rattle.wire.specs.Number.{puts}
use Rattle.wire.proofs.Puts.{puts_append}

module _ (a b : List ℕ) (at : ℕ) where
  -- the first has room where both have
  pub first_fits : {most : ℕ} → at + length (a ++ b) ≤ most → at + length a ≤ most
  first_fits h = omega (arith, length-append a b)

  module _ {next : ℕ} (e : next ≡ at + length a) where
    -- the second then has room after it
    pub second_fits : {most : ℕ} → at + length (a ++ b) ≤ most → next + length b ≤ most
    second_fits h = omega (arith, length-append a b)

    pub both_place : {last : ℕ} → last ≡ next + length b → last ≡ at + length (a ++ b)
    both_place f = omega (arith, length-append a b)

    pub both_put : (l : List ℕ) {l₁ l₂ : List ℕ} → l₁ ≡ puts l at a → l₂ ≡ puts l₁ next b → l₂ ≡ puts l at (a ++ b)
    both_put l p q = q ∙ rw p (puts_append a b l at next e)

-- ---- a loop that puts piece by piece: what is left is a piece and what is left then

module _ (rest piece rest' : List ℕ) (split : rest ≡ piece ++ rest') (to : ℕ) where
  module _ {whole : ℕ} (e : to + length rest ≡ whole) where
    sized : to + (length piece + length rest') ≡ whole
    sized = omega (arith, e, ap length split, length-append piece rest')

    pub piece_fits : {most : ℕ} → whole ≤ most → to + length piece ≤ most
    piece_fits m = omega (arith, sized)

    pub rest_place : {to' : ℕ} → to' ≡ to + length piece → to' + length rest' ≡ whole
    rest_place p = omega (arith, sized)

  pub rest_put : (l : List ℕ) {l' z : List ℕ} {to' : ℕ} → puts l to rest ≡ z → l' ≡ puts l to piece → to' ≡ to + length piece → puts l' to' rest' ≡ z
  rest_put l {to' = to'} e p q = rw p (puts_append piece rest' l to to' q ∙ (rw split at e))
