-- The digits of a number, found from the last one on. Assumes nothing.
use Prim.Native.Nat.{ℕ, zero, suc, ◌+◌, ◌-◌, ◌/◌, ◌%◌, ◌^◌, ◌<◌, ◌≤◌}
use mathlib.Core.Path.{◌≡◌, sym, ◌∙◌, ap}
use mathlib.Core.List.{List, [], ◌∷◌, ◌++◌, append-nil}
use native.Mathlib.Omega.{arith}
use native.Mathlib.Numerals.{add-one}
use native.Mathlib.Decide.{dec_lt}
use lib.ListN.{length, set, take, drop, length-set, length-drop}
use lib.Seq.{append_snoc, drop-length, take-length, drop_at, length-take-le, set_split}
use borrow.Author.Tests.{lt-ltb, le-ltb}
use Rattle.text.specs.Decimal.{digit, decimal_in, decimal}

-- ---- the definition by its cases

one_digit : (f x : ℕ) → x < 10 → decimal_in (suc f) x ≡ digit x ∷ []
unfolding decimal_in
one_digit f x h = rw (lt-ltb x 10 h, decimal_in)

more_digits : (f x : ℕ) → 10 ≤ x → decimal_in (suc f) x ≡ decimal_in f (x / 10) ++ (digit (x % 10) ∷ [])
unfolding decimal_in
more_digits f x h = rw (le-ltb x 10 h, decimal_in)

-- any number of places above the number is enough
enough : (f g x : ℕ) → x < f → x < g → decimal_in f x ≡ decimal_in g x
enough zero g x h k = absurd (omega arith)
enough (suc f) zero x h k = absurd (omega arith)
enough (suc f) (suc g) x h k = go (dec_lt x 10) (λ l. enough f g (x / 10) (omega arith) (omega arith))
  where
    go : Dec (x < 10) → (10 ≤ x → decimal_in f (x / 10) ≡ decimal_in g (x / 10)) → decimal_in (suc f) x ≡ decimal_in (suc g) x
    go (yes l) ih = one_digit f x l ∙ sym (one_digit g x l)
    go (no l) ih = let m : 10 ≤ x = omega arith in more_digits f x m ∙ ap (λ ds. ds ++ (digit (x % 10) ∷ [])) (ih m) ∙ sym (more_digits g x m)

pub decimal_one : (x : ℕ) → x < 10 → decimal x ≡ digit x ∷ []
unfolding decimal
decimal_one x h = one_digit x x h

pub decimal_more : (x : ℕ) → 10 ≤ x → decimal x ≡ decimal (x / 10) ++ (digit (x % 10) ∷ [])
unfolding decimal
decimal_more x h = more_digits x x h ∙ ap (λ ds. ds ++ (digit (x % 10) ∷ [])) (enough x (suc (x / 10)) (x / 10) (omega arith) (omega arith))

-- ---- the loop: what is left of the number, and the digits found, from place k + 1 on

pub most_digits_lem : (x : ℕ) → x < 4294967296 → x < 10 ^ (9 + 1)
most_digits_lem x h = omega arith

-- a number with two digits or more has a place to its left
pub more_places : (k x : ℕ) → 9 < x → x < 10 ^ (k + 1) → 1 ≤ k
more_places zero x h l = absurd (omega arith)
more_places (suc k) x h l = omega arith

pub tenth_fits : (k x : ℕ) → 9 < x → x < 10 ^ (k + 1) → x / 10 < 10 ^ (k - 1 + 1)
tenth_fits zero x h l = absurd (omega arith)
tenth_fits (suc k) x h l = let e : suc k - 1 + 1 ≡ suc k = omega arith in rw e (omega (arith, rw add-one at l))

drop_set : (l : List ℕ) (k a : ℕ) → k < length l → drop k (set l k a) ≡ a ∷ drop (k + 1) l
drop_set l k a h =
    let cut : drop k (take k l ++ a ∷ drop (suc k) l) ≡ a ∷ drop (suc k) l = drop_at (take k l) (a ∷ drop (suc k) l) k (length-take-le k l (omega arith)) in
    rw (set_split l k a h, add-one) cut

module _ (x : ℕ) (space : List ℕ) where
  pub spell_start : length space ≡ 10 → decimal x ++ drop (9 + 1) space ≡ decimal x
  spell_start h = let e : 9 + 1 ≡ length space = omega arith in rw (e, drop-length space) (append-nil (decimal x))

  pub spell_more : (k rest : ℕ) → 9 < rest → k ≤ 9 → length space ≡ 10 → rest < 10 ^ (k + 1) → decimal rest ++ drop (k + 1) space ≡ decimal x → decimal (rest / 10) ++ drop (k - 1 + 1) (set space k (rest % 10 + 48)) ≡ decimal x
  spell_more k rest h l m p e =
      let q : k - 1 + 1 ≡ k = omega (arith, more_places k rest h p) in
      rw (q, drop_set space k (rest % 10 + 48) (omega arith)) (sym (append_snoc (decimal (rest / 10)) (rest % 10 + 48) (drop (k + 1) space)) ∙ (rw (decimal_more rest (omega arith)) at e))

  pub spell_done : (k rest : ℕ) → rest ≤ 9 → k ≤ 9 → length space ≡ 10 → decimal rest ++ drop (k + 1) space ≡ decimal x → take (10 - k) (drop k (set space k (rest + 48))) ≡ decimal x
  spell_done k rest h l m e =
      let found : drop k (set space k (rest + 48)) ≡ decimal x = rw (drop_set space k (rest + 48) (omega arith)) (rw (decimal_one rest (omega arith)) at e) in
      let size : 10 - k ≡ length (drop k (set space k (rest + 48))) = omega (arith, length-drop k (set space k (rest + 48)), length-set space k (rest + 48)) in
      rw (size, take-length (drop k (set space k (rest + 48)))) found

pub ruleset spell_cases = (most_digits_lem, more_places, tenth_fits, spell_start, spell_more, spell_done)
