-- Sums over lists of numbers, what holds of every element, and lists given by a function. None of this is in the source. Assumes nothing.
use mathlib.Core.Path.{◌≡◌, refl, sym, ap, ap₂, ◌∙◌}
use mathlib.Core.Bool.{Bool, true, false, cond}
use mathlib.Core.List.{List, [], ◌∷◌, ◌++◌}
use Prim.Native.Nat.{ℕ, zero, suc, ◌+◌, ◌≤◌, ◌<◌, ◌*◌, ◌-◌}
use native.Mathlib.Omega.{arith}
use native.Mathlib.Decide.{ℕ_discrete}
use lib.Dec.{eqb}
use lib.ListN.{length, get_or, set}
use borrow.Author.Tests.{eq-eqb, ne_eqb}
use Rattle.lists.specs.Lists.{sum_over, below, tab, All, none, more, In, here, later}
use Rattle.lists.proofs.Bools.{fails}

pub sum_add : (f g : ℕ → ℕ) (ts : List ℕ) → sum_over (λ t. f t + g t) ts ≡ sum_over f ts + sum_over g ts
sum_add f g [] = refl
sum_add f g (t ∷ ts) = omega (arith, sum_add f g ts)

pub sum_scale : (k : ℕ) (f : ℕ → ℕ) (ts : List ℕ) → sum_over (λ t. k * f t) ts ≡ k * sum_over f ts
sum_scale k f [] = omega arith
sum_scale k f (t ∷ ts) = omega (arith, sum_scale k f ts)

pub sum_mono : (f g : ℕ → ℕ) {ts : List ℕ} → All (λ t. f t ≤ g t) ts → sum_over f ts ≤ sum_over g ts
sum_mono f g none = omega arith
sum_mono f g (more h hs) = omega (arith, sum_mono f g hs)

pub sum_zero : (f : ℕ → ℕ) {ts : List ℕ} → All (λ t. f t ≡ 0) ts → sum_over f ts ≡ 0
sum_zero f none = refl
sum_zero f (more h hs) = omega (arith, sum_zero f hs)

pub all_of : {P : ℕ → Type 0} → ((t : ℕ) → P t) → (ts : List ℕ) → All P ts
all_of h [] = none
all_of h (t ∷ ts) = more (h t) (all_of h ts)

pub sum_swap : (f : ℕ → ℕ → ℕ) (ks us : List ℕ) → sum_over (λ k. sum_over (f k) us) ks ≡ sum_over (λ u. sum_over (λ k. f k u) ks) us
sum_swap f [] us = sym (sum_zero (λ u. 0) (all_of (λ u. refl) us))
sum_swap f (k ∷ ks) us = omega (arith, sum_swap f ks us, sum_add (f k) (λ u. sum_over (λ j. f j u) ks) us)

pub all_map : {P Q : ℕ → Type 0} → ((t : ℕ) → P t → Q t) → {ts : List ℕ} → All P ts → All Q ts
all_map h none = none
all_map h (more p ps) = more (h _ p) (all_map h ps)

pub all_both : {P Q : ℕ → Type 0} {ts : List ℕ} → All P ts → All Q ts → All (λ t. P t × Q t) ts
all_both none none = none
all_both (more p ps) (more q qs) = more (p, q) (all_both ps qs)

pub all_head : {P : ℕ → Type 0} {t : ℕ} {ts : List ℕ} → All P (t ∷ ts) → P t
all_head (more h hs) = h

pub all_tail : {P : ℕ → Type 0} {t : ℕ} {ts : List ℕ} → All P (t ∷ ts) → All P ts
all_tail (more h hs) = hs

pub all_at : {P : ℕ → Type 0} {ts : List ℕ} → All P ts → (i : ℕ) → i < length ts → P (get_or ts i 0)
all_at none i l = absurd (omega arith)
all_at (more h hs) zero l = h
all_at (more h hs) (suc i) l = all_at hs i (omega arith)

pub all_append : {A : Type 0} {P : A → Type 0} {ts us : List A} → All P ts → All P us → All P (ts ++ us)
all_append none k = k
all_append (more h hs) k = more h (all_append hs k)

pub all_in : {P : ℕ → Type 0} {t : ℕ} {ts : List ℕ} → All P ts → In t ts → P t
all_in none i = elim i [ ]
all_in (more h hs) here = h
all_in (more h hs) (later i) = all_in hs i

-- ---- which numbers stand in two lists, one after the other

pub in_first : {t : ℕ} {ts : List ℕ} (us : List ℕ) → In t ts → In t (ts ++ us)
in_first us here = here
in_first us (later i) = later (in_first us i)

pub in_second : {t : ℕ} (ts : List ℕ) {us : List ℕ} → In t us → In t (ts ++ us)
in_second [] i = i
in_second (u ∷ ts) i = later (in_second ts i)

-- ---- the numbers below n

pub below_length : (n : ℕ) → length (below n) ≡ n
below_length zero = refl
below_length (suc n) = ap suc (below_length n)

pub below_at : (n k : ℕ) → k < n → get_or (below n) k 0 ≡ n - (k + 1)
below_at zero k h = absurd (omega arith)
below_at (suc n) zero h = omega arith
below_at (suc n) (suc k) h = below_at n k (omega arith) ∙ omega arith

pub all_below : {P : ℕ → Type 0} (n : ℕ) → ((t : ℕ) → t < n → P t) → All P (below n)
all_below zero h = none
all_below (suc n) h = more (h n (omega arith)) (all_below n (λ t l. h t (omega arith)))

pub sum_same : (f g : ℕ → ℕ) (n : ℕ) → ((t : ℕ) → t < n → f t ≡ g t) → sum_over f (below n) ≡ sum_over g (below n)
sum_same f g zero h = refl
sum_same f g (suc n) h = omega (arith, h n (omega arith), sum_same f g n (λ t l. h t (omega arith)))

pub sum_split : (f : ℕ → ℕ) (k m : ℕ) → sum_over f (below (k + m)) ≡ sum_over f (below k) + sum_over (λ u. f (k + u)) (below m)
sum_split f k zero = let e : k + 0 ≡ k = omega arith in rw e (omega arith)
sum_split f k (suc m) = let e : k + suc m ≡ suc (k + m) = omega arith in rw e (omega (arith, sum_split f k m))

pub sum_ones : (n : ℕ) → sum_over (λ k. 1) (below n) ≡ n
sum_ones zero = refl
sum_ones (suc n) = omega (arith, sum_ones n)

-- of the numbers from 1 to n just one is j
pub sum_hit : (n j : ℕ) → 1 ≤ j → j ≤ n → sum_over (λ k. cond (eqb j (k + 1)) 1 0) (below n) ≡ 1
sum_hit zero j a b = absurd (omega arith)
sum_hit (suc n) j a b = go (ℕ_discrete j (n + 1)) (λ l. sum_hit n j a l)
  where
    go : Dec (j ≡ n + 1) → (j ≤ n → sum_over (λ k. cond (eqb j (k + 1)) 1 0) (below n) ≡ 1) → cond (eqb j (n + 1)) 1 0 + sum_over (λ k. cond (eqb j (k + 1)) 1 0) (below n) ≡ 1
    go (yes e) ih =
        let rest : sum_over (λ k. cond (eqb j (k + 1)) 1 0) (below n) ≡ 0 = sum_zero (λ k. cond (eqb j (k + 1)) 1 0) (all_below n (λ k l. rw (ne_eqb j (k + 1) (omega arith)))) in
        rw (eq-eqb j (n + 1) e, rest)
    go (no e) ih = rw (ne_eqb j (n + 1) e, ih (omega arith))

-- a test that no two of them pass
pub at_most_one : (p : ℕ → Bool) (n : ℕ) → ((u v : ℕ) → u < n → v < n → p u ≡ true → p v ≡ true → u ≡ v) → sum_over (λ u. cond (p u) 1 0) (below n) ≤ 1
at_most_one p zero alone = omega arith
at_most_one p (suc n) alone = go (p n) refl (at_most_one p n (λ u v l m. alone u v (omega arith) (omega arith)))
  where
    go : (b : Bool) → p n ≡ b → sum_over (λ u. cond (p u) 1 0) (below n) ≤ 1 → cond b 1 0 + sum_over (λ u. cond (p u) 1 0) (below n) ≤ 1
    go true e ih =
        let rest : sum_over (λ u. cond (p u) 1 0) (below n) ≡ 0 =
        sum_zero (λ u. cond (p u) 1 0) (all_below n (λ u l. rw (fails (p u) (λ q. omega (arith, alone u n (omega arith) (omega arith) q e))))) in
        omega (arith, rest)
    go false e ih = omega (arith, ih)

pub sum_point : (f : ℕ → ℕ) (n j : ℕ) → j < n → f j ≤ sum_over f (below n)
sum_point f zero j h = omega arith
sum_point f (suc n) j h = elim (ℕ_discrete j n) [ yes q ↦ omega (arith, ap f q) | no q ↦ omega (arith, sum_point f n j (omega arith)) ]

-- f is at most g, and at j there is room for a more
pub sum_room : (f g : ℕ → ℕ) (a n j : ℕ) → j < n → ((t : ℕ) → cond (eqb t j) a 0 + f t ≤ g t) → a + sum_over f (below n) ≤ sum_over g (below n)
sum_room f g a n j l h =
    omega (
      arith,
      rw (eq-eqb j j refl) at (sum_point (λ t. cond (eqb t j) a 0) n j l),
      sum_add (λ t. cond (eqb t j) a 0) f (below n),
      sum_mono (λ t. cond (eqb t j) a 0 + f t) g (all_of h (below n)),
    )

-- ---- lists given by a function

pub tab_length {ℓ} : {A : Type ℓ} (n : ℕ) (f : ℕ → A) → length (tab n f) ≡ n
unfolding tab
tab_length zero f = refl
tab_length (suc n) f = ap suc (tab_length n (λ k. f (suc k)))

pub tab_at {ℓ} : {A : Type ℓ} (n : ℕ) (f : ℕ → A) (d : A) (t : ℕ) → t < n → get_or (tab n f) t d ≡ f t
unfolding tab
tab_at zero f d t h = absurd (omega arith)
tab_at (suc n) f d zero h = refl
tab_at (suc n) f d (suc t) h = tab_at n (λ k. f (suc k)) d t (omega arith)

pub tab_same {ℓ} : {A : Type ℓ} (n : ℕ) (f g : ℕ → A) → ((k : ℕ) → k < n → f k ≡ g k) → tab n f ≡ tab n g
unfolding tab
tab_same zero f g h = refl
tab_same (suc n) f g h = ap₂ ◌∷◌ (h 0 (omega arith)) (tab_same n (λ k. f (suc k)) (λ k. g (suc k)) (λ k l. h (suc k) (omega arith)))

-- f and g differ at k only
pub tab_set {ℓ} : {A : Type ℓ} (n : ℕ) (f g : ℕ → A) (k : ℕ) → k < n → ((j : ℕ) → j < n → (j ≡ k → ⊥) → f j ≡ g j) → set (tab n f) k (g k) ≡ tab n g
unfolding tab
tab_set zero f g k h d = absurd (omega arith)
tab_set (suc n) f g zero h d = ap (λ l. g 0 ∷ l) (tab_same n (λ j. f (suc j)) (λ j. g (suc j)) (λ j l. d (suc j) (omega arith) (λ e. omega arith)))
tab_set (suc n) f g (suc k) h d =
    ap₂ ◌∷◌ (d 0 (omega arith) (λ e. omega arith)) (tab_set n (λ j. f (suc j)) (λ j. g (suc j)) k (omega arith) (λ j l m. d (suc j) (omega arith) (λ e. m (omega arith))))
