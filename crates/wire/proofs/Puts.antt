-- Values put into a list from a place on. Assumes nothing.
use Prim.Native.Nat.{ℕ, suc, ◌+◌, ◌≤◌}
use mathlib.Core.Path.{◌≡◌, refl, sym, ◌∙◌}
use mathlib.Core.List.{List, [], ◌∷◌, ◌++◌}
use native.Mathlib.Omega.{arith}
use native.Mathlib.Numerals.{add-one}
use native.Mathlib.Nat.{zero-add}
use Rattle.std.proofs.Common.{append_assoc}
use lib.ListN.{length, set, take, drop, length-set}
use lib.Seq.{sets, sets-eq, drop-drop}
use borrow.Rule.Slice.PartMut.{put_mid}
use Rattle.wire.specs.Number.{puts}

puts_sets : (vs l : List ℕ) (i : ℕ) → puts l i vs ≡ sets l i vs
puts_sets [] l i = refl
puts_sets (a ∷ vs) l i = rw add-one (puts_sets vs (set l i a) (suc i))

-- what was put, and the rest as it was
pub puts_front : (vs l : List ℕ) → length vs ≤ length l → puts l 0 vs ≡ vs ++ drop (length vs) l
puts_front vs l h = puts_sets vs l 0 ∙ sets-eq vs l 0 (omega arith) ∙ rw zero-add

-- the same from any place on
pub puts_at : (vs l : List ℕ) (i : ℕ) → i + length vs ≤ length l → puts l i vs ≡ take i l ++ vs ++ drop (i + length vs) l
puts_at vs l i h = puts_sets vs l i ∙ sets-eq vs l i h

pub puts_length : (vs l : List ℕ) (i : ℕ) → length (puts l i vs) ≡ length l
puts_length [] l i = refl
puts_length (a ∷ vs) l i = puts_length vs (set l i a) (i + 1) ∙ length-set l i a

-- values put after what was put
pub puts_append : (vs ws l : List ℕ) (i j : ℕ) → j ≡ i + length vs → puts (puts l i vs) j ws ≡ puts l i (vs ++ ws)
puts_append [] ws l i j e = let k : j ≡ i = omega arith in rw k
puts_append (a ∷ vs) ws l i j e = puts_append vs ws (set l i a) (i + 1) j (omega arith)

-- values written over a part
pub put_part : (l vs : List ℕ) (at k : ℕ) {ys : List ℕ} → ys ≡ vs → k ≡ length vs → at + k ≤ length l → put_mid at k l ys ≡ puts l at vs
put_part l vs at k p q h = rw (p, q) (rw (drop-drop (length vs) at l) (sym (puts_at vs l at (omega arith) ∙ append_assoc (take at l) vs (drop (at + length vs) l))))
