-- The listing of any bytes is that of the first of them that the program reads. Assumes nothing.
use Prim.Native.Nat.{ℕ}
use mathlib.Core.Path.{◌≡◌, refl, sym, ◌∙◌, ap}
use mathlib.Core.List.{List}
use native.Mathlib.Decide.{ℕ_discrete}
use lib.ListN.{take}
use Rattle.refusal.specs.Cause.{first_of}
use Rattle.refusal.specs.Written.{kept}
use Rattle.refusal.proofs.Written.{kept_before}
use Rattle.sheet.specs.Read.{sheet_causes}
use Rattle.sheet.proofs.Prefix.{prefix_refusal, prefix_same}
use Rattle.list_spec.specs.Limits.{input_bytes}
use Rattle.list_spec.specs.List.{list_causes, list_of}

-- where a sheet is refused nothing but the refusal and the lent bytes are in the answer
list_refused : (s lent : List ℕ) (f : ℕ) → first_of (sheet_causes s) ≡ f → (f ≡ 0 → ⊥) → list_of s lent ≡ kept f lent
unfolding list_of list_causes
list_refused s lent f e z = kept_before (sheet_causes s) _ _ lent f e z

pub first_bytes : (s lent : List ℕ) → list_of (take input_bytes s) lent ≡ list_of s lent
first_bytes s lent = go (ℕ_discrete (first_of (sheet_causes s)) 0)
  where
    go : Dec (first_of (sheet_causes s) ≡ 0) → list_of (take input_bytes s) lent ≡ list_of s lent
    go (yes e) = ap (λ (r : List ℕ). list_of r lent) (prefix_same s e)
    go (no f) = list_refused (take input_bytes s) lent (first_of (sheet_causes s)) (prefix_refusal s) f ∙ sym (list_refused s lent (first_of (sheet_causes s)) refl f)
