-- The ones in a choice map are as many as the turns that it chooses. Assumes nothing.
use Prim.Native.Nat.{ℕ, suc, ◌+◌, ◌-◌, ◌*◌, ◌/◌, ◌%◌, ◌<◌}
use mathlib.Core.Path.{◌≡◌, refl, ◌∙◌, ap}
use mathlib.Core.Bool.{Bool, true, not, cond}
use mathlib.Core.List.{List, [], ◌∷◌}
use native.Mathlib.Omega.{arith}
use lib.ListN.{length}
use borrow.Author.Tests.{not-true}
use Rattle.lists.specs.Lists.{sum_over, below}
use Rattle.model.specs.Choice.{has, chosen}
use Rattle.lists.proofs.Bools.{every_at}
use Rattle.lists.proofs.Sums.{sum_same, sum_split, sum_zero, all_below}
use Rattle.choice_map.specs.Choice.{bit_of, map_bytes, chosen_in, choice_in, ones_of, ones_in, clear_past}
use Rattle.choice_map.proofs.Clean.{choice_has}

-- 1 for a bit that stands
abbrev pub one : Bool → ℕ
one b = cond b 1 0

-- ---- byte by byte

low_turn : (x : ℕ) (map : List ℕ) (k : ℕ) → k < 8 → chosen_in (x ∷ map) k ≡ bit_of x k
unfolding chosen_in
low_turn x map k h = let d : k / 8 ≡ 0 = omega arith in let m : k % 8 ≡ k = omega arith in rw (d, m)

high_turn : (x : ℕ) (map : List ℕ) (u : ℕ) → chosen_in (x ∷ map) (8 + u) ≡ chosen_in map u
unfolding chosen_in
high_turn x map u = let d : (8 + u) / 8 ≡ suc (u / 8) = omega arith in let m : (8 + u) % 8 ≡ u % 8 = omega arith in rw (d, m)

pub ones_bits : (map : List ℕ) → ones_in map ≡ sum_over (λ t. one (chosen_in map t)) (below (8 * length map))
unfolding ones_in ones_of
ones_bits [] = refl
ones_bits (x ∷ map) =
    let e : 8 * length (x ∷ map) ≡ 8 + 8 * length map = omega arith in
    let l : sum_over (λ k. one (chosen_in (x ∷ map) k)) (below 8) ≡ sum_over (λ k. one (bit_of x k)) (below 8) = sum_same _ _ 8 (λ k h. ap one (low_turn x map k h)) in
    let r : sum_over (λ u. one (chosen_in (x ∷ map) (8 + u))) (below (8 * length map)) ≡ sum_over (λ u. one (chosen_in map u)) (below (8 * length map)) = sum_same _ _ (8 * length map) (λ u h. ap one (high_turn x map u)) in
    rw e (omega (arith, ones_bits map, l, r, sum_split (λ t. one (chosen_in (x ∷ map) t)) 8 (8 * length map)))

-- ---- the chosen turns

pub ones_turns : (n : ℕ) (map : List ℕ) → length map ≡ map_bytes n → clear_past n map ≡ true → ones_in map ≡ chosen n (choice_in n map) (λ t. 1)
unfolding chosen clear_past
ones_turns n map s c =
    let k : 8 * length map ≡ n + (8 * map_bytes n - n) = omega arith in
    let past : sum_over (λ u. one (chosen_in map (n + u))) (below (8 * map_bytes n - n)) ≡ 0 = sum_zero _ (all_below (8 * map_bytes n - n) (λ u h. ap one (not-true (chosen_in map (n + u)) (every_at (λ k. not (chosen_in map (n + k))) (8 * map_bytes n - n) c u h)))) in
    let inside : sum_over (λ t. one (has (choice_in n map) t)) (below n) ≡ sum_over (λ t. one (chosen_in map t)) (below n) = sum_same _ _ n (λ t h. ap one (choice_has n map t h)) in
    ones_bits map ∙ rw k (omega (arith, past, inside, sum_split (λ t. one (chosen_in map t)) n (8 * map_bytes n - n)))
