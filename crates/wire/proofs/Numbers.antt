-- Numbers as bytes, high byte first, and back again: each law once, over the width. Assumes nothing.
use Prim.Native.Nat.{ℕ, zero, suc, ◌+◌, ◌*◌, ◌/◌, ◌%◌, ◌^◌, ◌<◌, ◌≤◌}
use mathlib.Core.Path.{◌≡◌, refl, sym, ◌∙◌, ap, ap₂}
use mathlib.Core.List.{List, [], ◌∷◌, ◌++◌}
use native.Mathlib.Omega.{arith}
use native.Mathlib.Nat.{div-div-eq-div-mul, pow-suc, div-eq_of_lt, div-one, add-zero}
use native.Mathlib.Numerals.{add-one}
use lib.ListN.{length, get_or, take, drop, take-append-drop}
use lib.Seq.{drop-cons, drop-drop, get_or-drop, drop-append_seam}
use Rattle.wire.specs.Number.{bytes_of, value_from, value_of, bytes_at, value_at, Bytes, none, more}

-- one more byte: a quotient by a power is the next one divided by 256
next_power : (k x : ℕ) → x / 256 ^ suc k ≡ x / 256 ^ k / 256
next_power k x = ap (λ (n : ℕ). x / n) (pow-suc 256 k) ∙ sym (div-div-eq-div-mul x (256 ^ k) 256)

-- ---- from a number to bytes and back

from : (k x : ℕ) → value_from (x / 256 ^ k) (bytes_of k x) ≡ x
from zero x = div-one x
from (suc k) x =
    let e : x / 256 ^ suc k * 256 + x / 256 ^ k % 256 ≡ x / 256 ^ k = omega (arith, next_power k x) in
    ap (λ (n : ℕ). value_from n (bytes_of k x)) e ∙ from k x

pub value_bytes : (k x : ℕ) → x < 256 ^ k → value_of (bytes_of k x) ≡ x
value_bytes k x h = ap (λ (n : ℕ). value_from n (bytes_of k x)) (sym (div-eq_of_lt h)) ∙ from k x

pub bytes_append : {a b : List ℕ} → Bytes a → Bytes b → Bytes (a ++ b)
bytes_append none q = q
bytes_append (more h p) q = more h (bytes_append p q)

pub length_bytes : (k x : ℕ) → length (bytes_of k x) ≡ k
length_bytes zero x = refl
length_bytes (suc k) x = ap suc (length_bytes k x)

pub bytes_below : (k x : ℕ) → Bytes (bytes_of k x)
bytes_below zero x = none
bytes_below (suc k) x = more {b = x / 256 ^ k % 256} (omega arith) (bytes_below k x)

-- ---- from bytes to a number and back

-- what stood before the bytes is what is left of the number above them
above : {bs : List ℕ} → Bytes bs → (before : ℕ) → value_from before bs / 256 ^ length bs ≡ before
above none before = div-one before
above (more {b = b} {bs = bs} h r) before =
    let i = above r (before * 256 + b) in
    omega (arith, next_power (length bs) (value_from (before * 256 + b) bs))

from_value : {bs : List ℕ} → Bytes bs → (before : ℕ) → bytes_of (length bs) (value_from before bs) ≡ bs
from_value none before = refl
from_value (more {b = b} {bs = bs} h r) before =
    let i = above r (before * 256 + b) in
    let e : value_from (before * 256 + b) bs / 256 ^ length bs % 256 ≡ b = omega arith in
    ap₂ ◌∷◌ e (from_value r (before * 256 + b))

pub bytes_value : {bs : List ℕ} → Bytes bs → bytes_of (length bs) (value_of bs) ≡ bs
bytes_value r = from_value r 0

-- ---- at a place of a list

pub bytes_at_length : (s : List ℕ) (at k : ℕ) → length (bytes_at s at k) ≡ k
bytes_at_length s at zero = refl
bytes_at_length s at (suc k) = ap suc (bytes_at_length s (at + 1) k)

pub byte_below : {s : List ℕ} → Bytes s → (i : ℕ) → get_or s i 0 < 256
byte_below none i = omega arith
byte_below (more h r) zero = h
byte_below (more h r) (suc i) = byte_below r i

pub bytes_at_below : {s : List ℕ} → Bytes s → (at k : ℕ) → Bytes (bytes_at s at k)
bytes_at_below h at zero = none
bytes_at_below h at (suc k) = more (byte_below h at) (bytes_at_below h (at + 1) k)

pub bytes_value_at : (s : List ℕ) (at k : ℕ) → Bytes (bytes_at s at k) → bytes_of k (value_at s at k) ≡ bytes_at s at k
bytes_value_at s at k h = ap (λ (n : ℕ). bytes_of n (value_at s at k)) (sym (bytes_at_length s at k)) ∙ bytes_value h

pub bytes_at_part : (s : List ℕ) (at k : ℕ) → at + k ≤ length s → bytes_at s at k ≡ take k (drop at s)
bytes_at_part s at zero h = refl
bytes_at_part s at (suc k) h =
    let l : at < length s = omega arith in
    let e : drop at s ≡ get_or s at 0 ∷ drop (at + 1) s = rw (add-one, drop-cons s at 0) in
    rw e (ap (λ (r : List ℕ). get_or s at 0 ∷ r) (bytes_at_part s (at + 1) k (omega arith)))

-- so bytes from a place on are the number that is read there, as bytes, and then the rest
pub bytes_rest : {s : List ℕ} → Bytes s → (at k : ℕ) → at + k ≤ length s → drop at s ≡ bytes_of k (value_at s at k) ++ drop (at + k) s
bytes_rest {s} b at k h = sym (take-append-drop k (drop at s)) ∙ ap₂ ◌++◌ (sym (bytes_value_at s at k (bytes_at_below b at k) ∙ bytes_at_part s at k h)) (drop-drop k at s)

-- what stands at a place is what is read there: one byte, some bytes, a number
pub byte_front : (s : List ℕ) (at b : ℕ) (rest : List ℕ) → drop at s ≡ b ∷ rest → get_or s at 0 ≡ b
byte_front s at b rest e = ap (λ (i : ℕ). get_or s i 0) (sym (add-zero at)) ∙ sym (get_or-drop at s 0 0) ∙ ap (λ (l : List ℕ). get_or l 0 0) e

pub bytes_at_front : (bs s : List ℕ) (at : ℕ) (rest : List ℕ) → drop at s ≡ bs ++ rest → bytes_at s at (length bs) ≡ bs
bytes_at_front [] s at rest e = refl
bytes_at_front (b ∷ bs) s at rest e =
    let t : drop (at + 1) s ≡ bs ++ rest = sym (drop-drop 1 at s) ∙ ap (drop 1) e in
    ap₂ ◌∷◌ (byte_front s at b (bs ++ rest) e) (bytes_at_front bs s (at + 1) rest t)

pub value_front : (k x : ℕ) (s : List ℕ) (at : ℕ) (rest : List ℕ) → x < 256 ^ k → drop at s ≡ bytes_of k x ++ rest → value_at s at k ≡ x
value_front k x s at rest h e =
    ap (λ (n : ℕ). value_at s at n) (sym (length_bytes k x)) ∙ ap value_of (bytes_at_front (bytes_of k x) s at rest e) ∙ value_bytes k x h

-- the same of a list that is written out
pub value_read : (k x : ℕ) (pre rest : List ℕ) → x < 256 ^ k → value_at (pre ++ (bytes_of k x ++ rest)) (length pre) k ≡ x
value_read k x pre rest h = value_front k x (pre ++ (bytes_of k x ++ rest)) (length pre) rest h (drop-append_seam pre (bytes_of k x ++ rest))
