-- Steps as bytes: what is written reads back, and sums of amounts as a loop goes on. Assumes nothing.
use Prim.Native.Nat.{ℕ, zero, suc, ◌+◌, ◌*◌, ◌/◌, ◌%◌, ◌^◌, ◌<◌, ◌≤◌}
use mathlib.Core.Path.{◌≡◌, refl, sym, ◌∙◌, ap, ap₂}
use mathlib.Core.List.{List, [], ◌∷◌, ◌++◌}
use native.Mathlib.Omega.{arith}
use native.Mathlib.Numerals.{add-one}
use lib.ListN.{length, get_or, drop}
use lib.Seq.{get_or-drop}
use Rattle.wire.specs.Number.{bytes_of, value_of, bytes_at, value_at, puts, Bytes}
use Rattle.wire.proofs.Numbers.{value_front}
use Rattle.wire.proofs.Puts.{puts_append}
use Rattle.lists.specs.Lists.{tab}
use Rattle.model.specs.Steps.{Step, tally}
use Rattle.lists.proofs.Sums.{tab_length, tab_at, tab_same}
use Rattle.board.specs.Board.{step_size, step_at, steps_in, step_bytes}

-- steps whose numbers fit two bytes
pub data SmallSteps : List Step → Type 0 where
  none : SmallSteps []
  more : {x : Step} {xs : List Step} → x.turn < 65536 → x.amount < 65536 → SmallSteps xs → SmallSteps (x ∷ xs)

pub bytes_then : (k y : ℕ) {r : List ℕ} → Bytes r → Bytes (bytes_of k y ++ r)
bytes_then zero y b = b
bytes_then (suc k) y b = Bytes.more {b = y / 256 ^ k % 256} (omega arith) (bytes_then k y b)

pub step_bytes_length : (xs : List Step) → length (step_bytes xs) ≡ step_size * length xs
unfolding step_bytes
step_bytes_length [] = refl
step_bytes_length (x ∷ xs) = omega (arith, step_bytes_length xs)

pub step_bytes_below : (xs : List Step) → Bytes (step_bytes xs)
unfolding step_bytes
step_bytes_below [] = Bytes.none
step_bytes_below (x ∷ xs) = bytes_then 2 x.turn (bytes_then 2 x.amount (step_bytes_below xs))

-- ---- reading them back

bytes_at_drop : (d : ℕ) (l : List ℕ) (at k : ℕ) → bytes_at (drop d l) at k ≡ bytes_at l (d + at) k
bytes_at_drop d l at zero = refl
bytes_at_drop d l at (suc k) = let e : d + at + 1 ≡ d + (at + 1) = omega arith in ap₂ ◌∷◌ (get_or-drop d l at 0) (rw e (bytes_at_drop d l (at + 1) k))

-- a step of what is left after the first
step_behind : (l : List ℕ) (i : ℕ) → step_at l (suc i) ≡ step_at (drop step_size l) i
step_behind l i =
    let a : step_size * suc i ≡ step_size + step_size * i = omega arith in
    let b : step_size + step_size * i + 2 ≡ step_size + (step_size * i + 2) = omega arith in
    let t : value_at l (step_size * suc i) 2 ≡ value_at (drop step_size l) (step_size * i) 2 = rw a (sym (ap value_of (bytes_at_drop step_size l (step_size * i) 2))) in
    let m : value_at l (step_size * suc i + 2) 2 ≡ value_at (drop step_size l) (step_size * i + 2) 2 = rw (a, b) (sym (ap value_of (bytes_at_drop step_size l (step_size * i + 2) 2))) in
    λ j. record { turn = t j; amount = m j }

pub steps_read : {xs : List Step} → SmallSteps xs → (l rest : List ℕ) → l ≡ step_bytes xs ++ rest → steps_in (length xs) l ≡ xs
unfolding steps_in tab step_bytes
steps_read none l rest e = refl
steps_read (more {x = x} {xs = xs} h k r) l rest e =
    let t : value_at l 0 2 ≡ x.turn = value_front 2 x.turn l 0 (bytes_of 2 x.amount ++ (step_bytes xs ++ rest)) h e in
    let m : value_at l 2 2 ≡ x.amount = value_front 2 x.amount l 2 (step_bytes xs ++ rest) k (ap (drop 2) e) in
    let head : step_at l 0 ≡ x = λ j. record { turn = t j; amount = m j } in
    let tail : tab (length xs) (λ i. step_at l (suc i)) ≡ xs = tab_same (length xs) (λ i. step_at l (suc i)) (step_at (drop step_size l)) (λ i h. step_behind l i) ∙ steps_read r (drop step_size l) rest (ap (drop step_size) e) in
    ap₂ ◌∷◌ head tail

pub steps_length : (m : ℕ) (l : List ℕ) → length (steps_in m l) ≡ m
unfolding steps_in
steps_length m l = tab_length m (step_at l)

pub steps_at : (m : ℕ) (l : List ℕ) (i : ℕ) (d : Step) → i < m → get_or (steps_in m l) i d ≡ step_at l i
unfolding steps_in
steps_at m l i d h = tab_at m (step_at l) d i h

-- ---- written one after another

pub step_put : (l : List ℕ) (at : ℕ) (x : Step) {l₁ l₂ : List ℕ} → l₁ ≡ puts l at (bytes_of 2 x.turn) → l₂ ≡ puts l₁ (at + 2) (bytes_of 2 x.amount) → l₂ ≡ puts l at (step_bytes (x ∷ []))
unfolding step_bytes
step_put l at x p q = let e : at + 2 ≡ at + 1 + 1 = omega arith in q ∙ rw (p, e)

pub steps_put : (l : List ℕ) (m : ℕ) (x : Step) (xs : List Step) → puts (puts l (step_size * m) (step_bytes (x ∷ []))) (step_size * (m + 1)) (step_bytes xs) ≡ puts l (step_size * m) (step_bytes (x ∷ xs))
unfolding step_bytes
steps_put l m x xs = puts_append (bytes_of 2 x.turn ++ bytes_of 2 x.amount) (step_bytes xs) l (step_size * m) (step_size * (m + 1)) (omega arith)

-- ---- the sum of the amounts, as far as a loop has come

tally_snoc : (n : ℕ) (f : ℕ → Step) → tally (tab (suc n) f) ≡ tally (tab n f) + (f n).amount
unfolding tab tally
tally_snoc zero f = omega arith
tally_snoc (suc n) f = omega (arith, tally_snoc n (λ k. f (suc k)))

module _ (l : List ℕ) where
  pub amounts_start : 0 ≡ tally (steps_in 0 l)
  unfolding steps_in tab tally
  amounts_start = refl

  pub amounts_more : (i : ℕ) {a s : ℕ} → a ≡ (step_at l i).amount → s ≡ tally (steps_in i l) → s + a ≡ tally (steps_in (i + 1) l)
  unfolding steps_in
  amounts_more i e h = rw add-one (omega (arith, tally_snoc i (step_at l)))

  pub amounts_done : {i m s : ℕ} → m ≤ i → i ≤ m → s ≡ tally (steps_in i l) → s ≡ tally (steps_in m l)
  amounts_done {i} {m} h k e = let q : i ≡ m = omega arith in rw q at e

pub ruleset amounts_cases = (amounts_start, amounts_more, amounts_done)
