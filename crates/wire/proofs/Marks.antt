-- A mark is compared byte by byte: that is the same as comparing lists. Assumes nothing.
use Prim.Native.Nat.{ℕ, ◌<◌, ◌≤◌}
use mathlib.Core.Path.{◌≡◌, refl, sym, ◌∙◌, ap}
use mathlib.Core.Bool.{Bool, true, false, ◌&&◌, true≢false}
use mathlib.Core.List.{List, [], ◌∷◌}
use mathlib.Core.Logic.{◌↔◌}
use native.Mathlib.Omega.{arith}
use lib.Dec.{eqb}
use lib.ListN.{length, get_or, take}
use lib.Pointwise.{pointwise}
use lib.Seq.{get_or-take}
use borrow.Author.Tests.{eqb-true, eq-eqb}
use Rattle.wire.specs.Mark.{sheet_mark, board_mark, opens_with}

three : (p q r : Bool) → (p && (q && r)) ≡ true → (p ≡ true) × (q ≡ true) × (r ≡ true)
three true true r e = (refl, refl, e)
three true false r e = absurd (true≢false (sym e))
three false q r e = absurd (true≢false (sym e))

-- three bytes that are not 0, for past its end a list reads as 0
module _ (a b c : ℕ) (a≢0 : a ≡ 0 → ⊥) (b≢0 : b ≡ 0 → ⊥) (c≢0 : c ≡ 0 → ⊥) where
  -- three bytes read one by one are the first three of the list
  first_three : (s : List ℕ) → get_or s 0 0 ≡ a → get_or s 1 0 ≡ b → get_or s 2 0 ≡ c → take 3 s ≡ a ∷ b ∷ c ∷ []
  first_three [] p q r = absurd (a≢0 (sym p))
  first_three (x ∷ []) p q r = absurd (b≢0 (sym q))
  first_three (x ∷ y ∷ []) p q r = absurd (c≢0 (sym r))
  first_three (x ∷ y ∷ z ∷ s) p q r = rw (p, q, r)

  pub opens_take : (s : List ℕ) → opens_with (a ∷ b ∷ c ∷ []) s ≡ true → take 3 s ≡ a ∷ b ∷ c ∷ []
  unfolding opens_with
  opens_take s e =
      let t = three (eqb (get_or s 0 0) a) (eqb (get_or s 1 0) b) (eqb (get_or s 2 0) c) e in
      first_three s (eqb-true (get_or s 0 0) a t.0) (eqb-true (get_or s 1 0) b t.1) (eqb-true (get_or s 2 0) c t.2)

-- the other way it holds of every three bytes
pub take_opens : (a b c : ℕ) (s : List ℕ) → take 3 s ≡ a ∷ b ∷ c ∷ [] → opens_with (a ∷ b ∷ c ∷ []) s ≡ true
unfolding opens_with
take_opens a b c s e = rw (eq-eqb (get_or s 0 0) a (same 0 (omega arith)), eq-eqb (get_or s 1 0) b (same 1 (omega arith)), eq-eqb (get_or s 2 0) c (same 2 (omega arith)))
  where
    same : (i : ℕ) → i < 3 → get_or s i 0 ≡ get_or (a ∷ b ∷ c ∷ []) i 0
    same i h = sym (get_or-take 3 s i 0 h) ∙ ap (λ (l : List ℕ). get_or l i 0) e

pub opens_iff : (a b c : ℕ) → (a ≡ 0 → ⊥) → (b ≡ 0 → ⊥) → (c ≡ 0 → ⊥) → (s : List ℕ) → (opens_with (a ∷ b ∷ c ∷ []) s ≡ true) ↔ (take 3 s ≡ a ∷ b ∷ c ∷ [])
opens_iff a b c p q r s = (opens_take a b c p q r s, take_opens a b c s)

pub sheet_mark_iff : (s : List ℕ) → (opens_with sheet_mark s ≡ true) ↔ (take 3 s ≡ sheet_mark)
sheet_mark_iff s = opens_iff 0x47 0x52 0x4D (omega arith) (omega arith) (omega arith) s

pub board_mark_iff : (s : List ℕ) → (opens_with board_mark s ≡ true) ↔ (take 3 s ≡ board_mark)
board_mark_iff s = opens_iff 0x47 0x52 0x42 (omega arith) (omega arith) (omega arith) s

-- three bytes that are compared as a list are compared one by one
pub same_three : (mark s : List ℕ) → length mark ≡ 3 → 3 ≤ length s → pointwise eqb (take 3 s) mark ≡ opens_with mark s
unfolding opens_with
same_three [] s e h = absurd (omega arith)
same_three (a ∷ []) s e h = absurd (omega arith)
same_three (a ∷ b ∷ []) s e h = absurd (omega arith)
same_three (a ∷ b ∷ c ∷ d ∷ m) s e h = absurd (omega arith)
same_three (a ∷ b ∷ c ∷ []) [] e h = absurd (omega arith)
same_three (a ∷ b ∷ c ∷ []) (x ∷ []) e h = absurd (omega arith)
same_three (a ∷ b ∷ c ∷ []) (x ∷ y ∷ []) e h = absurd (omega arith)
same_three (a ∷ b ∷ c ∷ []) (x ∷ y ∷ z ∷ s) e h = ap (λ (t : Bool). eqb x a && (eqb y b && t)) (and_true (eqb z c))
  where
    and_true : (t : Bool) → (t && true) ≡ t
    and_true true = refl
    and_true false = refl
