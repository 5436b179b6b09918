-- The choice map by its cases, each premise in the form in which the code's calls and tests leave it. Assumes nothing.
use Prim.Native.Nat.{ℕ, suc, ◌+◌, ◌-◌, ◌*◌, ◌/◌, ◌%◌, ◌<◌, ◌≤◌}
use mathlib.Core.Path.{◌≡◌, sym, ap}
use mathlib.Core.Bool.{Bool, true, false, not}
use mathlib.Core.List.{List, []}
use native.Mathlib.Omega.{arith}
use native.Mathlib.Numerals.{add-one}
use lib.ListN.{length, get_or, set, drop}
use lib.Seq.{drop-cons, drop-length}
use Rattle.lists.specs.Lists.{every}
use Rattle.lists.proofs.Bools.{every_fails}
use Rattle.choice_map.specs.Choice.{bit_of, with_bit, map_bytes, chosen_in, with_turn, ones_of, ones_in, clear_past}

module _ (map : List ℕ) (t : ℕ) where
  pub chosen_is : {r : Bool} → r ≡ bit_of (get_or map (t / 8) 0) (t % 8) → r ≡ chosen_in map t
  unfolding chosen_in
  chosen_is e = e

  pub added_is : {x : ℕ} → x ≡ with_bit (get_or map (t / 8) 0) (t % 8) → set map (t / 8) x ≡ with_turn map t
  unfolding with_turn
  added_is e = rw e

pub ruleset map_cases = (chosen_is, added_is)

-- ---- counting

module _ (map : List ℕ) (i sum : ℕ) where
  pub ones_more : {x : ℕ} → i < length map → x ≡ ones_of (get_or map i 0) → sum + ones_in (drop i map) ≡ ones_in map → sum + x + ones_in (drop (i + 1) map) ≡ ones_in map
  unfolding ones_in
  ones_more h e k = let d : ones_in (drop i map) ≡ ones_of (get_or map i 0) + ones_in (drop (suc i) map) = ap ones_in (drop-cons map i 0 h) in rw add-one (omega arith)

  pub ones_done : length map ≤ i → i ≤ length map → sum + ones_in (drop i map) ≡ ones_in map → sum ≡ ones_in map
  unfolding ones_in
  ones_done h l k = let z : i ≡ length map = omega arith in let d : drop i map ≡ [] = rw z (drop-length map) in let e : ones_in (drop i map) ≡ 0 = ap ones_in d in omega arith

-- ---- the bits past the last turn

module _ (map : List ℕ) (n t : ℕ) where
  abbrev ClearTo : ℕ → Type 0
  ClearTo k = every (λ k. not (chosen_in map (n + k))) k ≡ true

  pub clear_more : {b : Bool} → n ≤ t → b ≡ chosen_in map t → b ≡ false → ClearTo (t - n) → ClearTo (t + 1 - n)
  unfolding every
  clear_more l e f h = let k : t + 1 - n ≡ suc (t - n) = omega arith in let z : n + (t - n) ≡ t = omega arith in rw (k, z, ← e, f) h

  pub clear_not : {b : Bool} → length map ≡ map_bytes n → n ≤ t → t < 8 * length map → b ≡ chosen_in map t → b ≡ true → false ≡ clear_past n map
  unfolding clear_past
  clear_not s l h e f = let z : n + (t - n) ≡ t = omega arith in sym (every_fails (λ k. not (chosen_in map (n + k))) (8 * map_bytes n - n) (t - n) (omega arith) (rw (z, ← e, f)))

  pub clear_done : length map ≡ map_bytes n → 8 * length map ≤ t → t ≤ 8 * length map → ClearTo (t - n) → true ≡ clear_past n map
  unfolding clear_past
  clear_done s l h k = let z : t - n ≡ 8 * map_bytes n - n = omega arith in sym (rw z at k)

pub clear_start : (map : List ℕ) (n t : ℕ) → t ≡ n → every (λ k. not (chosen_in map (n + k))) (t - n) ≡ true
unfolding every
clear_start map n t e = let z : t - n ≡ 0 = omega arith in rw z

pub ruleset clear_cases = (clear_start, clear_more, clear_not, clear_done)
