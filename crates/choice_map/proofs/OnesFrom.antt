-- How many chosen turns a map has from a turn on: one less from a chosen turn to the next. Assumes nothing.
use Prim.Native.Nat.{ℕ, zero, suc, ◌+◌, ◌-◌, ◌*◌, ◌<◌, ◌≤◌}
use mathlib.Core.Path.{◌≡◌, refl}
use mathlib.Core.Bool.{Bool, true, false}
use mathlib.Core.List.{List}
use native.Mathlib.Omega.{arith}
use native.Mathlib.Numerals.{add-one}
use native.Mathlib.Nat.{sub-zero}
use native.Mathlib.Decide.{ℕ_discrete}
use lib.ListN.{length}
use Rattle.lists.specs.Lists.{sum_over, below}
use Rattle.choice_map.specs.Choice.{chosen_in, ones_in, next_among, next_chosen}
use Rattle.choice_map.proofs.Counts.{one, ones_bits}
use Rattle.choice_map.proofs.NextChosen.{among_ind, among_from}

-- the chosen ones of the d turns from t on
ones_among : ℕ → List ℕ → ℕ → ℕ
ones_among zero map t = 0
ones_among (suc d) map t = one (chosen_in map t) + ones_among d map (t + 1)

-- the chosen turns of the whole map from t on
pub ones_from : List ℕ → ℕ → ℕ
ones_from map t = ones_among (8 * length map - t) map t

module _ (map : List ℕ) where
  -- ---- among d turns

  among_sum : (d t : ℕ) → sum_over (λ k. one (chosen_in map k)) (below t) + ones_among d map t ≡ sum_over (λ k. one (chosen_in map k)) (below (t + d))
  unfolding ones_among
  among_sum zero t = let e : t + 0 ≡ t = omega arith in rw e (omega arith)
  among_sum (suc d) t = let e : t + suc d ≡ suc t + d = omega arith in rw (e, add-one) (omega (arith, among_sum d (suc t)))

  one_is : (t : ℕ) {b : Bool} → chosen_in map t ≡ b → one (chosen_in map t) ≡ one b
  one_is t e = rw e

  among_some : (d t : ℕ) → 0 < ones_among d map t → next_among d map t < t + d
  unfolding ones_among
  among_some =
      among_ind map (λ d t r. 0 < ones_among d map t → r < t + d) (λ t h. omega arith) (λ d t e h. omega arith) (λ d t r e ih h. omega (arith, ih (omega (arith, one_is t e))))

  among_less : (d t : ℕ) → next_among d map t < t + d → ones_among d map t ≡ suc (ones_among (t + d - (next_among d map t + 1)) map (next_among d map t + 1))
  unfolding ones_among
  among_less =
      among_ind map (λ d t r. r < t + d → ones_among d map t ≡ suc (ones_among (t + d - (r + 1)) map (r + 1))) (λ t h. absurd (omega arith))
      (λ d t e h. let z : t + suc d - (t + 1) ≡ d = omega arith in rw z (omega (arith, one_is t e)))
      (λ d t r e ih h. let z : t + suc d - (r + 1) ≡ t + 1 + d - (r + 1) = omega arith in rw z (omega (arith, one_is t e, ih (omega arith))))

  among_none : (d t : ℕ) → ones_among d map t ≡ 0 → (u : ℕ) → t ≤ u → u < t + d → chosen_in map u ≡ false
  unfolding ones_among
  among_none zero t e u l m = absurd (omega arith)
  among_none (suc d) t e u l m = go (ℕ_discrete u t) (λ q. among_none d (t + 1) (omega arith) u (omega arith) (omega arith))
    where
      none_here : (b : Bool) → one b ≡ 0 → b ≡ false
      none_here true z = absurd (omega arith)
      none_here false z = refl

      go : Dec (u ≡ t) → ((u ≡ t → ⊥) → chosen_in map u ≡ false) → chosen_in map u ≡ false
      go (yes q) ih = rw q (none_here (chosen_in map t) (omega arith))
      go (no q) ih = ih q

  -- ---- in the whole map

  pub ones_start : ones_in map ≡ ones_from map 0
  unfolding ones_from
  ones_start =
      let e : 0 + 8 * length map ≡ 8 * length map = omega arith in
      let q : 0 + ones_among (8 * length map) map 0 ≡ sum_over (λ k. one (chosen_in map k)) (below (8 * length map)) = rw e at (among_sum (8 * length map) 0) in
      rw sub-zero (omega (arith, ones_bits map))

  module _ (t : ℕ) where
    -- where one is left, the next is found
    pub ones_some : 0 < ones_from map t → next_chosen map t < 8 * length map
    unfolding ones_from next_chosen
    ones_some h = omega (arith, among_some (8 * length map - t) t h, (among_from map (8 * length map - t) t).0)

    -- after it there is one less
    pub ones_less : next_chosen map t < 8 * length map → ones_from map t ≡ suc (ones_from map (next_chosen map t + 1))
    unfolding ones_from next_chosen
    ones_less h =
        let r = next_among (8 * length map - t) map t in
        let from : t ≤ r = (among_from map (8 * length map - t) t).0 in
        let z : t + (8 * length map - t) - (r + 1) ≡ 8 * length map - (r + 1) = omega arith in
        rw z at (among_less (8 * length map - t) t (omega arith))

    -- where none is left, no turn from there on is chosen
    pub ones_none : ones_from map t ≡ 0 → (u : ℕ) → t ≤ u → u < 8 * length map → chosen_in map u ≡ false
    unfolding ones_from
    ones_none e u l h = among_none (8 * length map - t) t e u l (omega arith)
