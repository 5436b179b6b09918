-- Words about lists and bounded counting that the other definitions use (no rule of its own). Assumes nothing.
use Rattle.std.specs.Prelude.{◌≡◌, Bool, true, cond, ◌&&◌, List, [], ◌∷◌, ℕ, zero, suc, ◌+◌, ◌<◌, length, get_or}

-- p of every number below n
unfoldable pub every : (ℕ → Bool) → ℕ → Bool
every p zero = true
every p (suc n) = p n && every p n

-- the list f 0, .., f (n - 1)
unfoldable pub tab {ℓ} : {A : Type ℓ} → ℕ → (ℕ → A) → List A
tab zero f = []
tab (suc n) f = f zero ∷ tab n (λ k. f (suc k))

-- the sum of f over a list of numbers
abbrev pub sum_over : (ℕ → ℕ) → List ℕ → ℕ
sum_over f [] = 0
sum_over f (t ∷ ts) = f t + sum_over f ts

-- n - 1, .., 0
abbrev pub below : ℕ → List ℕ
below zero = []
below (suc n) = n ∷ below n

-- those of a list of which p holds
unfoldable pub keep : (ℕ → Bool) → List ℕ → List ℕ
keep p [] = []
keep p (t ∷ ts) = let rest = keep p ts in cond (p t) (t ∷ rest) rest

-- every element of a list has P
pub data All {A : Type 0} (P : A → Type 0) : List A → Type 0 where
  none : All P []
  more : {t : A} {ts : List A} → P t → All P ts → All P (t ∷ ts)

-- t stands in a list
pub data In (t : ℕ) : List ℕ → Type 0 where
  here : {ts : List ℕ} → In t (t ∷ ts)
  later : {u : ℕ} {ts : List ℕ} → In t ts → In t (u ∷ ts)

-- the first k places of a list of n hold what f gives
pub record FilledTo (f : ℕ → ℕ) (n : ℕ) (l : List ℕ) (k : ℕ) : Type 0 where
  pub places : length l ≡ n
  pub values : (i : ℕ) → i < k → get_or l i 0 ≡ f i
