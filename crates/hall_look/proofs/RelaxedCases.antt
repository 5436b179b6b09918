-- The relaxed set by its cases, each premise in the form in which the code's calls and tests leave it. Assumes nothing.
use Prim.Native.Nat.{ℕ, zero, suc, ◌+◌, ◌-◌, ◌*◌, ◌≤◌, ◌<◌}
use mathlib.Core.Path.{◌≡◌, refl, sym, ap, ◌∙◌}
use mathlib.Core.Logic.{◌≢◌}
use mathlib.Core.Bool.{Bool, true, false, cond, ◌&&◌, ◌||◌}
use mathlib.Core.List.{List}
use native.Mathlib.Omega.{arith}
use native.Mathlib.Numerals.{add-one}
use native.Mathlib.Decide.{dec_lt, ℕ_discrete}
use lib.Dec.{ltb, eqb}
use lib.ListN.{length, get_or, set, replicate}
use lib.Seq.{get_or-set_same, get_or-set_other}
use borrow.Author.Tests.{eq-eqb, ne_eqb, lt-ltb, le-ltb}
use Rattle.lists.specs.Lists.{tab, All, none, more}
use Rattle.lists.proofs.Bools.{fails}
use Rattle.lists.proofs.Sums.{all_map, tab_same}
use Rattle.model.specs.Choice.{has}
use Rattle.model.proofs.Choices.{none_chosen}
use Rattle.best_spec.specs.Table.{Best, no_turns, greater, is_among}
use Rattle.best_spec.proofs.Members.{among_all}
use Rattle.choice_map.specs.Choice.{chosen_in, choice_in, with_turn, Clean}
use Rattle.choice_map.proofs.Clean.{choice_has, choice_length, choice_with, clean_bits, clean_with}
use Rattle.instance.proofs.Rows.{count_is}
use Rattle.charge_spec.specs.Hall.{Hall, window_count, vehicle}
use Rattle.hall_by_prices_spec.specs.Prices.{alone, window_counts, richest_of, vehicle_best, hall_relaxed}
use Rattle.hall_look.specs.declared.HallSize.{HallSize}
use Rattle.hall_look.specs.Look.{vehicle_places, hall_for, window_before, with_before, HallPosed, WindowsTaken}

-- ---- the window before a number

module _ (number : ℕ) (map : List ℕ) where
  pub before_none : number ≡ 0 → map ≡ with_before number map
  unfolding with_before
  before_none e = rw e

  pub before_one : {map' : List ℕ} → (number ≡ 0 → ⊥) → map' ≡ with_turn map (number - 1) → map' ≡ with_before number map
  unfolding with_before
  before_one z e =
      let k : number ≡ suc (number - 1) = omega arith in
      e ∙ ap (λ (x : ℕ). with_before x map) (sym k)

-- ---- the windows of the vehicles before one

-- a map with the windows of the first v vehicles set too
unfoldable pub with_taken : List ℕ → ℕ → List ℕ → List ℕ
with_taken taken zero map = map
with_taken taken (suc v) map = with_before (get_or taken v 0) (with_taken taken v map)

module _ (taken map : List ℕ) where
  pub taken_start : map ≡ with_taken taken 0 map
  unfolding with_taken
  taken_start = refl

  pub taken_more : (v : ℕ) {new new' : List ℕ} → new ≡ with_taken taken v map → new' ≡ with_before (get_or taken v 0) new → new' ≡ with_taken taken (v + 1) map
  unfolding with_taken
  taken_more v e f = rw (add-one v) (f ∙ ap (with_before (get_or taken v 0)) e)

-- the best window of a vehicle is one of its windows
module _ (H : Hall) (counts : ℕ → ℕ) (v : ℕ) where
  abbrev Own : ℕ → ℕ → Type 0
  Own k t = (t < k) × (vehicle H t ≡ v)

  greater_own : (k : ℕ) (a b : Best) → All (Own k) a.turns → All (Own k) b.turns → All (Own k) (greater a b).turns
  unfolding greater
  greater_own k a b p q = go (ltb a.worth b.worth)
    where
      go : (c : Bool) → All (Own k) (cond c b a).turns
      go true = q
      go false = p

  richest_own : (k : ℕ) → All (Own k) (richest_of H counts v k).turns
  unfolding richest_of
  richest_own zero = none
  richest_own (suc k) =
      greater_own (suc k) (richest_of H counts v k) (cond (eqb (vehicle H k) v) (alone counts k) no_turns)
      (all_map (λ t p. (omega (arith, p.0), p.1)) (richest_own k))
      (go (ℕ_discrete (vehicle H k) v))
    where
      go : Dec (vehicle H k ≡ v) → All (Own (suc k)) (cond (eqb (vehicle H k) v) (alone counts k) no_turns).turns
      go (yes e) = rw (eq-eqb (vehicle H k) v e) (more {t = k} (omega arith, e) none)
      go (no d) = rw (ne_eqb (vehicle H k) v d) none

ltb_next : (x v : ℕ) → x ≢ v → ltb x (suc v) ≡ ltb x v
ltb_next x v d = go (dec_lt x v)
  where
    go : Dec (x < v) → ltb x (suc v) ≡ ltb x v
    go (yes l) = lt-ltb x (suc v) (omega arith) ∙ sym (lt-ltb x v l)
    go (no l) = le-ltb x (suc v) (omega arith) ∙ sym (le-ltb x v (omega arith))

before_within : (m x : ℕ) → All (λ t. t < m) (window_before x) → x ≤ m
unfolding window_before
before_within m zero a = omega arith
before_within m (suc t) (more l r) = omega (arith, l)

or_none : (b : Bool) → b ≡ (b || false)
or_none true = refl
or_none false = refl

or_one : (b : Bool) → true ≡ (b || true)
or_one true = refl
or_one false = refl

-- one window more in a clean map
module _ (n : ℕ) (map : List ℕ) (c : Clean n map) where
  put_clean : (x : ℕ) → All (λ t. t < n) (window_before x) → Clean n (with_before x map)
  unfolding window_before with_before
  put_clean zero a = c
  put_clean (suc t) (more l r) = clean_with n map t c l

  put_has : (x : ℕ) → All (λ t. t < n) (window_before x) → (u : ℕ) → has (choice_in n (with_before x map)) u ≡ (has (choice_in n map) u || is_among (window_before x) u)
  unfolding window_before with_before is_among
  put_has zero a u = or_none (has (choice_in n map) u)
  put_has (suc t) (more l r) u = ap (λ (S : List Bool). has S u) (choice_with map t c.bytes (omega (arith, clean_bits c)) n l) ∙ go (ℕ_discrete u t)
    where
      go : Dec (u ≡ t) → has (set (choice_in n map) t true) u ≡ (has (choice_in n map) u || (eqb u t || false))
      go (yes e) = rw (eq-eqb u t e) (rw e (get_or-set_same (choice_in n map) t true false (omega (arith, choice_length n map))) ∙ or_one (has (choice_in n map) u))
      go (no d) = rw (ne_eqb u t d) (get_or-set_other (choice_in n map) t u true false d ∙ or_none (has (choice_in n map) u))

module _ (h : HallSize) (cols : List ℕ) (q : HallPosed h cols) (prices taken : List ℕ) (b : WindowsTaken (hall_for h cols) prices taken) where
  abbrev H : Hall
  H = hall_for h cols

  abbrev n : ℕ
  n = h.size.count

  -- the window that vehicle v takes
  abbrev own : ℕ → List ℕ
  own v = (vehicle_best H prices v).turns

  best_own : (v : ℕ) → All (λ t. (t < n) × (vehicle H t ≡ v)) (own v)
  unfolding vehicle_best
  best_own v = all_map (λ t p. (omega (arith, p.0, count_is h.size cols), p.1)) (richest_own H (window_counts H prices) v (window_count H))

  taken_within : (v : ℕ) → v < vehicle_places → All (λ t. t < n) (window_before (get_or taken v 0))
  taken_within v l = rw (b.windows v (omega arith)) (all_map (λ t p. p.0) (best_own v))

  module _ (map : List ℕ) (c : Clean n map) where
    clean_to : (v : ℕ) → v ≤ vehicle_places → Clean n (with_taken taken v map)
    unfolding with_taken
    clean_to zero l = c
    clean_to (suc v) l = put_clean n (with_taken taken v map) (clean_to v (omega arith)) (get_or taken v 0) (taken_within v l)

    pub taken_inside : {v : ℕ} {new : List ℕ} → v < vehicle_places → new ≡ with_taken taken v map → get_or taken v 0 ≤ 8 * length new
    taken_inside {v} {new} l e =
        let long : n ≤ 8 * length new = rw e (clean_bits (clean_to v (omega arith))) in
        omega (arith, long, before_within n (get_or taken v 0) (taken_within v l))

    pub taken_clean : {v : ℕ} {new : List ℕ} → v ≤ vehicle_places → new ≡ with_taken taken v map → Clean n new
    taken_clean {v} l e = rw e (clean_to v l)

    module _ (z : choice_in n map ≡ replicate n false) where
      -- window u is taken, by one of the first v vehicles
      abbrev taken_before : ℕ → ℕ → Bool
      taken_before v u = ltb (vehicle H u) v && is_among (own (vehicle H u)) u

      taken_has : (v : ℕ) → v ≤ vehicle_places → (u : ℕ) → has (choice_in n (with_taken taken v map)) u ≡ taken_before v u
      unfolding with_taken
      taken_has zero l u = rw (z, le-ltb (vehicle H u) 0 (omega arith)) (fails (has (replicate n false) u) (none_chosen n u))
      taken_has (suc v) l u =
          put_has n (with_taken taken v map) (clean_to v (omega arith)) (get_or taken v 0) (taken_within v l) u
          ∙ rw (taken_has v (omega arith) u, b.windows v (omega arith)) (go (ℕ_discrete (vehicle H u) v))
        where
          go : Dec (vehicle H u ≡ v) → (taken_before v u || is_among (own v) u) ≡ taken_before (suc v) u
          go (yes e) = rw (le-ltb (vehicle H u) v (omega arith), lt-ltb (vehicle H u) (suc v) (omega arith)) (ap (λ (x : ℕ). is_among (own x) u) (sym e))
          go (no d) =
              let other : is_among (own v) u ≡ false = fails (is_among (own v) u) (λ i. d (among_all u (best_own v) i).1) in
              let same : ltb (vehicle H u) (suc v) ≡ ltb (vehicle H u) v = ltb_next (vehicle H u) v d in
              rw (other, same) (sym (or_none (taken_before v u)))

      pub taken_done : {v : ℕ} {new : List ℕ} → vehicle_places ≤ v → v ≤ vehicle_places → new ≡ with_taken taken v map → choice_in n new ≡ hall_relaxed H prices
      unfolding choice_in hall_relaxed
      taken_done {v} {new} k l e =
          tab_same n (chosen_in new) (λ t. is_among (own (vehicle H t)) t) (λ t m. sym (choice_has n new t m) ∙ at t m)
          ∙ ap (λ (x : ℕ). tab x (λ t. is_among (own (vehicle H t)) t)) (sym (count_is h.size cols))
        where
          at : (t : ℕ) → t < n → has (choice_in n new) t ≡ is_among (own (vehicle H t)) t
          at t m = ap (λ (x : List ℕ). has (choice_in n x) t) e ∙ taken_has v l t ∙ rw (lt-ltb (vehicle H t) v (omega (arith, q.held.vehicles t m)))

pub ruleset relaxed_cases = (taken_start, taken_more, taken_inside, taken_clean, taken_done)
