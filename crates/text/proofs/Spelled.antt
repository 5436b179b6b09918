-- The digits of a number spell it, and no other characters do. Assumes nothing.
use Prim.Native.Nat.{ℕ, zero, suc, ◌+◌, ◌-◌, ◌*◌, ◌/◌, ◌%◌, ◌<◌, ◌≤◌}
use mathlib.Core.Path.{◌≡◌, refl, sym, ◌∙◌, ap}
use mathlib.Core.Logic.{◌≢◌, ◌⊎◌, inl, inr}
use mathlib.Core.List.{List, [], ◌∷◌, ◌++◌}
use native.Mathlib.Omega.{arith}
use native.Mathlib.Decide.{dec_lt}
use lib.ListN.{length, get_or, length-append}
use Rattle.lists.specs.Lists.{All, none, more}
use Rattle.lists.proofs.Sums.{all_append}
use Rattle.text.specs.Decimal.{digit, decimal, number_from, Spells}
use Rattle.text.proofs.Digits.{decimal_one, decimal_more}

-- ---- a character more at the end

all_before : {P : ℕ → Type 0} (cs : List ℕ) (c : ℕ) → All P (cs ++ (c ∷ [])) → All P cs
all_before [] c h = none
all_before (d ∷ cs) c (more p h) = more p (all_before cs c h)

all_last : {P : ℕ → Type 0} (cs : List ℕ) (c : ℕ) → All P (cs ++ (c ∷ [])) → P c
all_last [] c (more p h) = p
all_last (d ∷ cs) c (more p h) = all_last cs c h

number_end : (b : ℕ) (cs : List ℕ) (c : ℕ) → number_from b (cs ++ (c ∷ [])) ≡ number_from b cs * 10 + (c - 48)
number_end b [] c = refl
number_end b (d ∷ cs) c = number_end (b * 10 + (d - 48)) cs c

number_least : (b : ℕ) (cs : List ℕ) → b ≤ number_from b cs
number_least b [] = omega arith
number_least b (c ∷ cs) = omega (arith, number_least (b * 10 + (c - 48)) cs)

first_end : (cs : List ℕ) (c : ℕ) → get_or cs 0 48 ≢ 48 → get_or (cs ++ (c ∷ [])) 0 48 ≢ 48
first_end [] c h = absurd (h refl)
first_end (d ∷ cs) c h = h

-- ---- the digits of a number spell it

-- those of a number above 0 begin with no zero
first_digit : (f x : ℕ) → x < f → 1 ≤ x → get_or (decimal x) 0 48 ≢ 48
first_digit zero x h p = absurd (omega arith)
first_digit (suc f) x h p = go (dec_lt x 10) (λ l. first_digit f (x / 10) (omega arith) (omega arith))
  where
    go : Dec (x < 10) → (10 ≤ x → get_or (decimal (x / 10)) 0 48 ≢ 48) → get_or (decimal x) 0 48 ≢ 48
    go (yes l) ih = rw (decimal_one x l) (λ e. omega (arith, e))
    go (no l) ih = let m : 10 ≤ x = omega arith in rw (decimal_more x m) (first_end (decimal (x / 10)) (digit (x % 10)) (ih m))

spelled : (f x : ℕ) → x < f → Spells x (decimal x)
spelled zero x h = absurd (omega arith)
spelled (suc f) x h = go (dec_lt x 10) (λ l. spelled f (x / 10) (omega arith))
  where
    go : Dec (x < 10) → (10 ≤ x → Spells (x / 10) (decimal (x / 10))) → Spells x (decimal x)
    go (yes l) ih = rw (decimal_one x l) (record { digits = more {t = digit x} (omega arith, omega arith) none; value = omega arith; short = inl refl })
    go (no l) ih =
        let m : 10 ≤ x = omega arith in
        record {
          digits = rw (decimal_more x m) (all_append (ih m).digits (more {t = digit (x % 10)} (omega arith, omega arith) none));
          value = rw (decimal_more x m) (omega (arith, number_end 0 (decimal (x / 10)) (digit (x % 10)), (ih m).value));
          short = inr (first_digit (suc f) x h (omega arith));
        }

pub decimal_spells : (x : ℕ) → Spells x (decimal x)
decimal_spells x = spelled (suc x) x (omega arith)

-- ---- and no other characters do

-- a list, read from its end
data Backwards : List ℕ → Type 0 where
  start : Backwards []
  end : {cs : List ℕ} → Backwards cs → (c : ℕ) → Backwards (cs ++ (c ∷ []))

in_front : (c : ℕ) {cs : List ℕ} → Backwards cs → Backwards (c ∷ cs)
in_front c start = end start c
in_front c (end b d) = end (in_front c b) d

backwards : (cs : List ℕ) → Backwards cs
backwards [] = start
backwards (c ∷ cs) = in_front c (backwards cs)

nothing_spells : (x : ℕ) → Spells x [] → ⊥
nothing_spells x s = elim s.short [ inl e ↦ omega (arith, e) | inr e ↦ e refl ]

-- the last character is the last digit, if those before it are the digits of their value
last_digit : (cs : List ℕ) (c x : ℕ) → ((y : ℕ) → Spells y cs → cs ≡ decimal y) → Spells x (cs ++ (c ∷ [])) → cs ++ (c ∷ []) ≡ decimal x
last_digit [] c x ih s =
    let d : (48 ≤ c) × (c < 58) = all_last [] c s.digits in
    let v : 0 * 10 + (c - 48) ≡ x = s.value in
    let l : x < 10 = omega (arith, d.0, d.1, v) in
    let q : c ≡ digit x = omega (arith, d.0, v) in
    ap (λ (a : ℕ). a ∷ []) q ∙ sym (decimal_one x l)
last_digit (e ∷ es) c x ih s =
    let d : (48 ≤ c) × (c < 58) = all_last (e ∷ es) c s.digits in
    let k : e ≢ 48 = front s.short in
    let a : (48 ≤ e) × (e < 58) = lead s.digits in
    let y : ℕ = number_from 0 (e ∷ es) in
    let v : y * 10 + (c - 48) ≡ x = sym (number_end 0 (e ∷ es) c) ∙ s.value in
    let p : 1 ≤ y = omega (arith, number_least (0 * 10 + (e - 48)) es, a.0, k) in
    let m : 10 ≤ x = omega (arith, v, p) in
    let t : x / 10 ≡ y = omega (arith, v, d.0, d.1) in
    let q : c ≡ digit (x % 10) = omega (arith, v, d.0, d.1) in
    let r : e ∷ es ≡ decimal y = ih y (record { digits = all_before (e ∷ es) c s.digits; value = refl; short = inr k }) in
    ap (λ (ds : List ℕ). ds ++ (c ∷ [])) r ∙ ap (λ (n : ℕ). decimal n ++ (c ∷ [])) (sym t) ∙ ap (λ (n : ℕ). decimal (x / 10) ++ (n ∷ [])) q ∙ sym (decimal_more x m)
  where
    front : (length (e ∷ es ++ (c ∷ [])) ≡ 1) ⊎ (get_or (e ∷ es ++ (c ∷ [])) 0 48 ≢ 48) → e ≢ 48
    front (inl f) = absurd (omega (arith, f, length-append es (c ∷ [])))
    front (inr f) = f

    lead : All (λ c. (48 ≤ c) × (c < 58)) (e ∷ (es ++ (c ∷ []))) → (48 ≤ e) × (e < 58)
    lead (more p h) = p

read_back : {cs : List ℕ} → Backwards cs → (x : ℕ) → Spells x cs → cs ≡ decimal x
read_back start x s = absurd (nothing_spells x s)
read_back (end {cs} b c) x s = last_digit cs c x (λ y r. read_back b y r) s

-- there is one spelling
pub spells_only : (x : ℕ) (cs : List ℕ) → Spells x cs → cs ≡ decimal x
spells_only x cs s = read_back (backwards cs) x s
