-- What the next chosen turn is: none is chosen before it, and it is. Assumes nothing.
use Prim.Native.Nat.{ℕ, zero, suc, ◌+◌, ◌-◌, ◌*◌, ◌<◌, ◌≤◌}
use mathlib.Core.Path.{◌≡◌, refl}
use mathlib.Core.Bool.{Bool, true, false, cond}
use mathlib.Core.List.{List}
use native.Mathlib.Omega.{arith}
use native.Mathlib.Decide.{ℕ_discrete}
use lib.ListN.{length}
use Rattle.choice_map.specs.Choice.{chosen_in, next_among, next_chosen}

-- what holds of the turn found, whether it is the first one or a later one
module _ (map : List ℕ) (P : ℕ → ℕ → ℕ → Type 0) (ends : (t : ℕ) → P 0 t t) (found : (d t : ℕ) → chosen_in map t ≡ true → P (suc d) t t)
    (goes : (d t r : ℕ) → chosen_in map t ≡ false → P d (t + 1) r → P (suc d) t r) where
  pub among_ind : (d t : ℕ) → P d t (next_among d map t)
  unfolding next_among
  among_ind zero t = ends t
  among_ind (suc d) t = go (chosen_in map t) refl (among_ind d (t + 1))
    where
      go : (b : Bool) → chosen_in map t ≡ b → P d (t + 1) (next_among d map (t + 1)) → P (suc d) t (cond b t (next_among d map (t + 1)))
      go true e ih = found d t e
      go false e ih = goes d t (next_among d map (t + 1)) e ih

pub among_from : (map : List ℕ) (d t : ℕ) → (t ≤ next_among d map t) × (next_among d map t ≤ t + d)
among_from map = among_ind map (λ d t r. (t ≤ r) × (r ≤ t + d)) (λ t. (omega arith, omega arith)) (λ d t e. (omega arith, omega arith)) (λ d t r e ih. (omega (arith, ih.0), omega (arith, ih.1)))

among_clear : (map : List ℕ) (d t u : ℕ) → t ≤ u → u < next_among d map t → chosen_in map u ≡ false
among_clear map d t u =
    among_ind
    map
    (λ d t r. t ≤ u → u < r → chosen_in map u ≡ false)
    (λ t l m. absurd (omega arith))
    (λ d t e l m. absurd (omega arith))
    (λ d t r e ih l m. skip t r e ih l m (ℕ_discrete u t))
    d
    t
  where
    skip : (t r : ℕ) → chosen_in map t ≡ false → (t + 1 ≤ u → u < r → chosen_in map u ≡ false) → t ≤ u → u < r → Dec (u ≡ t) → chosen_in map u ≡ false
    skip t r e ih l m (yes q) = rw q e
    skip t r e ih l m (no q) = ih (omega arith) m

among_found : (map : List ℕ) (d t : ℕ) → next_among d map t < t + d → chosen_in map (next_among d map t) ≡ true
among_found map = among_ind map (λ d t r. r < t + d → chosen_in map r ≡ true) (λ t l. absurd (omega arith)) (λ d t e l. e) (λ d t r e ih l. ih (omega arith))

module _ (map : List ℕ) (t : ℕ) where
  pub next_from : t ≤ next_chosen map t
  unfolding next_chosen
  next_from = (among_from map (8 * length map - t) t).0

  pub next_clear : (u : ℕ) → t ≤ u → u < next_chosen map t → chosen_in map u ≡ false
  unfolding next_chosen
  next_clear u = among_clear map (8 * length map - t) t u

  pub next_chosen_lem : next_chosen map t < 8 * length map → chosen_in map (next_chosen map t) ≡ true
  unfolding next_chosen
  next_chosen_lem h = among_found map (8 * length map - t) t (omega (arith, (among_from map (8 * length map - t) t).0))
