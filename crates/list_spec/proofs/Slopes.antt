-- No more turns are chosen than there are slopes: each slope is groomed by at most one of them. Assumes nothing.
use Prim.Native.Nat.{ℕ, ◌+◌, ◌<◌, ◌≤◌}
use mathlib.Core.Path.{◌≡◌, sym, ◌∙◌}
use mathlib.Core.Bool.{Bool, true, false, cond, ◌&&◌}
use mathlib.Core.List.{List}
use native.Mathlib.Omega.{arith}
use lib.Dec.{eqb}
use borrow.Author.Tests.{eqb-true}
use Rattle.lists.specs.Lists.{sum_over, below}
use Rattle.model.specs.Turns.{Turns, same_slope}
use Rattle.model.specs.Choice.{has, chosen}
use Rattle.model.specs.Rules.{Independent}
use Rattle.lists.proofs.Bools.{not_apart, and_1, and_2}
use Rattle.lists.proofs.Sums.{sum_mono, sum_swap, sum_ones, sum_hit, at_most_one, all_of, all_below}

-- ---- the chosen turns, slope by slope: the slopes are numbered from 1

module _ (T : Turns) (S : List Bool) (apart : Independent T S) where
  -- turn u is chosen, and is on the k-th slope
  grooms : ℕ → ℕ → Bool
  grooms k u = has S u && eqb (T.slope u) (k + 1)

  -- two chosen turns on one slope conflict
  groomed_once : (k u v : ℕ) → u < T.count → v < T.count → grooms k u ≡ true → grooms k v ≡ true → u ≡ v
  unfolding grooms
  groomed_once k u v l m p q =
      let a : T.slope u ≡ k + 1 = eqb-true (T.slope u) (k + 1) (and_2 (has S u) (eqb (T.slope u) (k + 1)) p) in
      let b : T.slope v ≡ k + 1 = eqb-true (T.slope v) (k + 1) (and_2 (has S v) (eqb (T.slope v) (k + 1)) q) in
      not_apart u v (λ e. apart u v l m e (and_1 (has S u) (eqb (T.slope u) (k + 1)) p) (and_1 (has S v) (eqb (T.slope v) (k + 1)) q) (same_slope (a ∙ sym b)))

  module _ (slopes : ℕ) (least : (u : ℕ) → u < T.count → 1 ≤ T.slope u) (most : (u : ℕ) → u < T.count → T.slope u ≤ slopes) where
    -- a chosen turn is on one of the slopes
    counted : (u : ℕ) → u < T.count → cond (has S u) 1 0 ≤ sum_over (λ k. cond (grooms k u) 1 0) (below slopes)
    unfolding grooms
    counted u l = go (has S u)
      where
        go : (b : Bool) → cond b 1 0 ≤ sum_over (λ k. cond (b && eqb (T.slope u) (k + 1)) 1 0) (below slopes)
        go true = omega (arith, sum_hit slopes (T.slope u) (least u l) (most u l))
        go false = omega arith

    pub chosen_few : chosen T.count S (λ t. 1) ≤ slopes
    unfolding chosen
    chosen_few =
        omega (
          arith,
          sum_mono (λ u. cond (has S u) 1 0) (λ u. sum_over (λ k. cond (grooms k u) 1 0) (below slopes)) (all_below T.count counted),
          sum_swap (λ k u. cond (grooms k u) 1 0) (below slopes) (below T.count),
          sum_mono (λ k. sum_over (λ u. cond (grooms k u) 1 0) (below T.count)) (λ k. 1) (all_of (λ k. at_most_one (grooms k) T.count (groomed_once k)) (below slopes)),
          sum_ones slopes,
        )
