-- A local array of numbers that is put down whole, lent whole, and had back. Assumes `Logic`.
--     all_typed        the machine's value of n times one number has the array's type
--     all_in           a local that holds it, as an array in memory: what is lent as one value
--     apart            an array in memory as its elements side by side: what is lent as a shared slice
--     together         and back
--     elements_back    as the value of a local, once the slice is back
use mathlib.Core.Path.{◌≡◌, refl, sym}
use Prim.Native.Nat.{ℕ, suc, zero, ◌<◌, ◌^◌}
use mathlib.Core.List.{List, [], ◌∷◌}
use lib.Dec.{T}
use lib.ListN.{length, replicate, length-replicate}
use seplogic.Ra.Ura.{Ura}
use base.Fraction.{full_share}
use mir.Syntax.{Width, ty_int, ty_array}
use mir.Val.{Val, vint, bits, has_ty, WT}
use base.Logic.{ent, ex, sep}
use base.Fml.{fat}
use types.Logic.{Logic, sem}
use types.Kit.{‵, ◌$◌, ◌∵◌, !, qed, by, move, use0, use1, use2, rewrite, done}
use types.Share.{arr_parts}
use denote.RattleType.{RattleType}
use denote.Array.{Array, each, array_val, Array-Lawful, Array-Makes}
use denote.Laws.{Is}
use denote.ArrayMemory.{Array-apart, Array-whole}
use denote.Memory.{part_at, shares}
use denote.Plain.{UInt, uint_Makes, uint_Lawful}
use denote.Shadow.{shadow}
use borrow.Table.OneValue.{part_in, part_out}

abbrev pub Numbers : Width → ℕ → RattleType
Numbers w n = Array (UInt w) n

module _ {M : Type 1} {𝓤 : Ura M} (𝓛 : Logic 𝓤) (w : Width) (n x : ℕ) (fits : x < 2 ^ bits w) where
  abbrev value : Val
  value = array_val (replicate n (vint w x))

  each_is : (k : ℕ) → shadow (each ℕ (UInt w).own_val (replicate k x) (replicate k (vint w x)))
  each_is zero = tt
  each_is (suc k) = ((refl, fits), each_is k)

  all_is : Is (Numbers w n) (replicate n x) (value ∷ [])
  all_is = (replicate n (vint w x), ((refl, length-replicate n x), each_is n))

  pub all_typed : T (has_ty (ty_array (ty_int w) n) value) × WT value
  all_typed = ((Array-Lawful 𝓛 (UInt w) (uint_Lawful 𝓛 w) n).typed (replicate n x) (value ∷ []) all_is).0

  pub all_in : (b : ℕ) → ent 𝓤 (sem 𝓛 (fat full_share (ty_array (ty_int w) n) b 0 value)) (sem 𝓛 (part_at (Numbers w n) full_share (replicate n x) b 0))
  all_in b =
      qed 𝓛 (‵ (fat full_share (ty_array (ty_int w) n) b 0 value) ∷ []) ∵ use0 𝓛 (‵ ((Numbers w n).own_val (replicate n x) (value ∷ []))) (Array-Makes 𝓛 (UInt w) (uint_Makes 𝓛 w) n (replicate n x) (value ∷ []) all_is) $
      move ! (1 ∷ 0 ∷ []) $ use2 𝓛 (‵ (part_at (Numbers w n) full_share (replicate n x) b 0)) (part_in 𝓛 (Numbers w n) refl full_share (replicate n x) b 0 value) $ done !

module _ {M : Type 1} {𝓤 : Ura M} (𝓛 : Logic 𝓤) (w : Width) (n b : ℕ) (xs : List ℕ) (size : length xs ≡ n) where
  open 𝓛 use {H}

  pub apart : ent 𝓤 (sem 𝓛 (part_at (Numbers w n) full_share xs b 0)) (sem 𝓛 ((arr_parts (shares (UInt w)) (length xs)).part full_share xs b 0))
  apart =
      qed 𝓛 (‵ (part_at (Numbers w n) full_share xs b 0) ∷ []) ∵ use1 𝓛 (‵ ((arr_parts (shares (UInt w)) n).part full_share xs b 0)) (Array-apart 𝓛 (UInt w) full_share tt n xs b 0) $
      rewrite ! 0 (λ (k : ℕ). ‵ ((arr_parts (shares (UInt w)) k).part full_share xs b 0)) (sym size) refl $ done !

  together : ent 𝓤 (sem 𝓛 ((arr_parts (shares (UInt w)) (length xs)).part full_share xs b 0)) (sem 𝓛 (part_at (Numbers w n) full_share xs b 0))
  together =
      qed 𝓛 (‵ ((arr_parts (shares (UInt w)) (length xs)).part full_share xs b 0) ∷ []) ∵ rewrite ! 0 (λ (k : ℕ). ‵ ((arr_parts (shares (UInt w)) k).part full_share xs b 0)) size refl $ by ! (Array-whole 𝓛 (UInt w) full_share n xs b 0)

  pub elements_back : ent 𝓤 (sem 𝓛 ((arr_parts (shares (UInt w)) (length xs)).part full_share xs b 0)) (ex 𝓤 (λ (v : Val). sep 𝓤 (H.at full_share (ty_array (ty_int w) n) b 0 v) (sem 𝓛 ((Numbers w n).own_val xs (v ∷ [])))))
  elements_back =
      qed 𝓛 (‵ ((arr_parts (shares (UInt w)) (length xs)).part full_share xs b 0) ∷ []) ∵ use1 𝓛 (‵ (part_at (Numbers w n) full_share xs b 0)) together $ by ! (part_out 𝓛 (Numbers w n) refl full_share xs b 0)
