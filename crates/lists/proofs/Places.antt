-- Lists read and put place by place. None of this is in the source. Assumes nothing.
use mathlib.Core.Path.{◌≡◌, refl, sym, ap, ◌∙◌}
use mathlib.Core.Logic.{◌≢◌}
use mathlib.Core.List.{List, ◌∷◌}
use Prim.Native.Nat.{ℕ, zero, suc, ◌+◌, ◌≤◌, ◌<◌}
use native.Mathlib.Omega.{arith}
use native.Mathlib.Numerals.{add-one}
use lib.ListN.{length, get_or, take, drop, set, length-set, replicate, length-replicate, get_or-replicate}
use lib.Seq.{get_or-set_same, get_or-set_other, drop-cons, ext_get_or, length-take-le}
use Rattle.lists.proofs.Bools.{up_to}
use Rattle.lists.specs.Lists.{FilledTo}

pub drop_step : (l : List ℕ) (j : ℕ) → j < length l → drop j l ≡ get_or l j 0 ∷ drop (j + 1) l
drop_step l j h = rw (add-one, drop-cons l j 0 h)

-- the length of the first k places
pub taken_length : (k : ℕ) (l : List ℕ) → k ≤ length l → k ≡ length (take k l)
taken_length k l h = sym (length-take-le k l h)

pub take_zeros : (k j : ℕ) → k ≤ j → ◌≡◌ {A = List ℕ} (take k (replicate j 0)) (replicate k 0)
take_zeros zero j h = refl
take_zeros (suc k) zero h = absurd (omega arith)
take_zeros (suc k) (suc j) h = ap (λ (l : List ℕ). 0 ∷ l) (take_zeros k j (omega arith))

-- what holds of what stands for each number before k, at its own place, and of what is put for k
pub put_at : (P : ℕ → ℕ → Type 0) (place : ℕ → ℕ) (l : List ℕ) (k x : ℕ) → place k < length l → ((i : ℕ) → i < k → place i ≢ place k)
    → ((i : ℕ) → i < k → P i (get_or l (place i) 0)) → P k x → (i : ℕ) → i < k + 1 → P i (get_or (set l (place k) x) (place i) 0)
put_at P place l k x h d b p =
    rw add-one (
    up_to (λ i. P i (get_or (set l (place k) x) (place i) 0)) k (λ i m. rw (get_or-set_other l (place k) (place i) x 0 (d i m)) (b i m))
    (rw (get_or-set_same l (place k) x 0 h) p))

-- where each number is its own place
pub put_more : (P : ℕ → ℕ → Type 0) (l : List ℕ) (k x : ℕ) → k < length l → ((i : ℕ) → i < k → P i (get_or l i 0)) → P k x
    → (i : ℕ) → i < k + 1 → P i (get_or (set l k x) i 0)
put_more P l k x h = put_at P (λ i. i) l k x h (λ i m. omega arith)

-- ---- a list filled by a rule

module _ (f : ℕ → ℕ) (n : ℕ) (l : List ℕ) where
  pub filled_start : length l ≡ n → FilledTo f n l 0
  filled_start e = record { places = e; values = λ i h. absurd (omega arith) }

  module _ {k : ℕ} (s : FilledTo f n l k) where
    pub filled_long : length l ≡ n
    filled_long = s.places

    pub filled_next : {x : ℕ} → k < length l → x ≡ f k → FilledTo f n (set l k x) (k + 1)
    filled_next {x} h e = record { places = length-set l k x ∙ s.places; values = put_more (λ i y. y ≡ f i) l k x h s.values e }

    pub filled_more : {x : ℕ} → k < n → x ≡ f k → FilledTo f n (set l k x) (k + 1)
    filled_more h = filled_next (omega (arith, s.places))

    pub filled_done : n ≤ k → FilledTo f n l n
    filled_done h = record { places = s.places; values = λ i m. s.values i (omega arith) }

pub ruleset filled_cases = (filled_start, filled_long, filled_more, filled_done)

-- cleared
pub cleared_all : (n : ℕ) (l : List ℕ) {k : ℕ} → FilledTo (λ i. 0) n l k → length l ≤ k → l ≡ replicate n 0
cleared_all n l s h =
    ext_get_or 0 l (replicate n 0) (s.places ∙ sym (length-replicate {A = ℕ} n 0))
    (λ i m. s.values i (omega arith) ∙ sym (get_or-replicate n i 0 0 (omega (arith, s.places))))

pub ruleset clear_cases = (filled_start, filled_next, cleared_all)
