-- Facts on one byte, each by one test that is computed over all 256 values. Assumes nothing.
use Prim.Native.Nat.{ℕ, zero, suc, ◌-◌, ◌*◌, ◌/◌, ◌%◌, ◌^◌, ◌<◌, ◌≤◌}
use mathlib.Core.Path.{◌≡◌, refl, sym, ◌∙◌, subst}
use mathlib.Core.Bool.{Bool, true, false, not, cond}
use mathlib.Core.List.{List, [], ◌∷◌}
use mathlib.Core.Logic.{⊎_elim}
use native.Mathlib.Omega.{arith}
use native.Mathlib.Nat.{eq-or-lt_of_le, le_of_suc-le-suc, not-suc-le-zero}
use lib.Dec.{T, eqb, leb, eqb→eq, leb→le}
use lib.Bits.{bit_or}
use lib.ListN.{length, get_or}
use lib.Count as count
use Rattle.lists.specs.Lists.{sum_over, below, tab}
use Rattle.lists.proofs.Sums.{tab_length, tab_at}
use Rattle.choice_map.specs.Choice.{bit_of, with_bit, ones_of, low_among}

-- f at every number below n
all_below : ℕ → (ℕ → Bool) → Bool
all_below zero f = true
all_below (suc n) f = cond (f n) (all_below n f) false

first : (a b : Bool) → T (cond a b false) → T a
first true b t = tt
first false b t = absurd t

second : (a b : Bool) → T (cond a b false) → T b
second true b t = t
second false b t = absurd t

at : (n : ℕ) (f : ℕ → Bool) → T (all_below n f) → (k : ℕ) → k < n → T (f k)
unfolding all_below
at zero f t k h = absurd (not-suc-le-zero h)
at (suc n) f t k h = ⊎_elim (λ e. subst (λ (m : ℕ). T (f m)) (sym e) (first (f n) (all_below n f) t)) (λ l. at n f (second (f n) (all_below n f) t) k l) (eq-or-lt_of_le (le_of_suc-le-suc h))

same : Bool → Bool → Bool
same true b = b
same false b = not b

same→eq : (a b : Bool) → T (same a b) → a ≡ b
unfolding same
same→eq true true t = refl
same→eq true false t = absurd t
same→eq false true t = absurd t
same→eq false false t = refl

-- the machine's count of ones is the sum of the bits
pub ones_byte : (x : ℕ) → x < 256 → count.ones x ≡ ones_of x
unfolding all_below ones_of bit_of count.ones count.ones_in
ones_byte x h = eqb→eq _ _ (at 256 (λ x. eqb (count.ones x) (ones_of x)) tt x h)

pub ones_most : (x : ℕ) → x < 256 → count.ones x ≤ 8
unfolding all_below count.ones count.ones_in
ones_most x h = leb→le _ _ (at 256 (λ x. leb (count.ones x) 8) tt x h)

-- the machine's or sets one bit
pub with_bit_byte : (x k : ℕ) → x < 256 → k < 8 → bit_or x (1 * 2 ^ k % 256) ≡ with_bit x k
unfolding all_below with_bit bit_of
with_bit_byte x k h l = eqb→eq _ _ (at 8 (λ k. eqb (bit_or x (1 * 2 ^ k % 256)) (with_bit x k)) (at 256 (λ x. all_below 8 (λ k. eqb (bit_or x (1 * 2 ^ k % 256)) (with_bit x k))) tt x h) k l)

pub with_bit_least : (x k : ℕ) → x < 256 → k < 8 → with_bit x k ≤ 255
unfolding all_below with_bit bit_of
with_bit_least x k h l = leb→le _ _ (at 8 (λ k. leb (with_bit x k) 255) (at 256 (λ x. all_below 8 (λ k. leb (with_bit x k) 255)) tt x h) k l)

-- of a byte with bit k set: bit k stands, and every other bit is as before
pub with_bit_bits : (x k j : ℕ) → x < 256 → k < 8 → j < 8 → bit_of (with_bit x k) j ≡ cond (eqb j k) true (bit_of x j)
unfolding all_below with_bit bit_of same
with_bit_bits x k j h l m =
    same→eq _ _ (at 8 (λ j. same (bit_of (with_bit x k) j) (cond (eqb j k) true (bit_of x j))) (at 8 (λ k. all_below 8 (λ j. same (bit_of (with_bit x k) j) (cond (eqb j k) true (bit_of x j)))) (at 256 (λ x. all_below 8 (λ k. all_below 8 (λ j. same (bit_of (with_bit x k) j) (cond (eqb j k) true (bit_of x j))))) tt x h) k l) j m)

-- the machine's count of trailing zeros, over the bits from k on, finds the lowest of them
pub low_byte : (x k : ℕ) → x < 256 → k < 8 → count.count_trailing_zeros 8 (x / 2 ^ k * 2 ^ k % 256) ≡ low_among (8 - k) x k
unfolding all_below low_among bit_of count.count_trailing_zeros
low_byte x k h l = eqb→eq _ _ (at 8 (λ k. eqb (count.count_trailing_zeros 8 (x / 2 ^ k * 2 ^ k % 256)) (low_among (8 - k) x k)) (at 256 (λ x. all_below 8 (λ k. eqb (count.count_trailing_zeros 8 (x / 2 ^ k * 2 ^ k % 256)) (low_among (8 - k) x k))) tt x h) k l)

-- a byte is the sum of its bits
pub bits_byte : (x : ℕ) → x < 256 → sum_over (λ i. cond (bit_of x i) (2 ^ i) 0) (below 8) ≡ x
unfolding all_below bit_of
bits_byte x h = eqb→eq _ _ (at 256 (λ x. eqb (sum_over (λ i. cond (bit_of x i) (2 ^ i) 0) (below 8)) x) tt x h)

-- ---- a byte made of eight bits: one test over all lists of eight

all_lists : ℕ → (List Bool → Bool) → Bool
all_lists zero p = p []
all_lists (suc n) p = cond (all_lists n (λ l. p (true ∷ l))) (all_lists n (λ l. p (false ∷ l))) false

of_list : (n : ℕ) (p : List Bool → Bool) → T (all_lists n p) → (l : List Bool) → length l ≡ n → T (p l)
unfolding all_lists
of_list zero p t [] e = t
of_list zero p t (b ∷ l) e = absurd (omega arith)
of_list (suc n) p t [] e = absurd (omega arith)
of_list (suc n) p t (true ∷ l) e = of_list n (λ l. p (true ∷ l)) (first (all_lists n (λ l. p (true ∷ l))) (all_lists n (λ l. p (false ∷ l))) t) l (omega arith)
of_list (suc n) p t (false ∷ l) e = of_list n (λ l. p (false ∷ l)) (second (all_lists n (λ l. p (true ∷ l))) (all_lists n (λ l. p (false ∷ l))) t) l (omega arith)

-- the sum of the powers of its bits
abbrev pub byte_from : (ℕ → Bool) → ℕ
byte_from f = sum_over (λ i. cond (f i) (2 ^ i) 0) (below 8)

listed : (l : List Bool) → length l ≡ 8 → (j : ℕ) → j < 8 → bit_of (byte_from (λ i. get_or l i false)) j ≡ get_or l j false
unfolding all_lists all_below bit_of same
listed l e j h = same→eq _ _ (at 8 (λ j. same (bit_of (byte_from (λ i. get_or l i false)) j) (get_or l j false)) (of_list 8 (λ l. all_below 8 (λ j. same (bit_of (byte_from (λ i. get_or l i false)) j) (get_or l j false))) tt l e) j h)

listed_below : (l : List Bool) → length l ≡ 8 → byte_from (λ i. get_or l i false) ≤ 255
unfolding all_lists
listed_below l e = leb→le _ _ (of_list 8 (λ l. leb (byte_from (λ i. get_or l i false)) 255) tt l e)

pub byte_bits : (f : ℕ → Bool) (j : ℕ) → j < 8 → bit_of (byte_from f) j ≡ f j
unfolding tab
byte_bits f j h = listed (tab 8 f) (tab_length 8 f) j h ∙ tab_at 8 f false j h

pub bits_below : (f : ℕ → Bool) → byte_from f ≤ 255
unfolding tab
bits_below f = listed_below (tab 8 f) (tab_length 8 f)
