-- Turns that get their numbers one after another: what holds as far as it has come, and what holds of all numbers in the end. Assumes nothing.
use mathlib.Core.Path.{◌≡◌, refl, sym, ap, ◌∙◌}
use mathlib.Core.Bool.{Bool, true, false, not, ◌&&◌}
use mathlib.Core.List.{List, [], ◌∷◌}
use Prim.Native.Nat.{ℕ, ◌+◌, ◌-◌, ◌≤◌, ◌<◌}
use native.Mathlib.Omega.{arith}
use native.Mathlib.Decide.{dec_lt, ℕ_discrete}
use lib.Dec.{eqb}
use lib.ListN.{length, set, replicate, length-set, length-replicate, get_or-replicate, get_or-eq_default}
use lib.Seq.{get_or-set_same, get_or-set_other}
use borrow.Author.Tests.{eqb-true, eq-eqb, ne_eqb, not-true, not-false}
use Rattle.lists.proofs.Bools.{and_1, and_2, and_of, not_both, fails, every_at, every_of, every_not}
use Rattle.model.specs.Turns.{Turns, PositiveLengths, overlap}
use Rattle.model.proofs.Conflicts.{overlap_sym}
use Rattle.model.proofs.Minutes.{overlap_minute, minute_overlap}
use Rattle.lists.specs.Lists.{All}
use Rattle.lists.specs.Sorting.{times_in}
use Rattle.lists.specs.Order.{Ascending}
use Rattle.lists.proofs.Sums.{all_head, all_tail}
use Rattle.assign_spec.specs.Numbering.{number_in, free_for, number_for, number_all, numbers_of, Before, TakenFor, GreedyNumbers, Assignment}
use Rattle.instance_spec.specs.ByStart.{order_by_start}
use Rattle.assign_spec.specs.Underway.{TakenBy, Underway}
use Rattle.assign_spec.proofs.Smallest.{first_from_lem, first_below, first_least, first_passes}
use Rattle.instance_spec.proofs.ByStart.{order_length, order_inside, order_rising, order_has}

-- ---- a number that is free, or not

module _ (T : Turns) (numbers : List ℕ) (t k : ℕ) where
  pub free_apart : free_for T numbers t k ≡ true → (u : ℕ) → u < T.count → number_in numbers u ≡ k → overlap T u t ≡ false
  unfolding free_for
  free_apart e u l h =
      fails (overlap T u t)
      (λ o.
      not_both (and_of (eqb (number_in numbers u) k) (overlap T u t) (eq-eqb (number_in numbers u) k h) o)
      (not-true (eqb (number_in numbers u) k && overlap T u t) (every_at (λ u. not (eqb (number_in numbers u) k && overlap T u t)) T.count e u l)))

  pub apart_free : ((u : ℕ) → u < T.count → number_in numbers u ≡ k → overlap T u t ≡ false) → free_for T numbers t k ≡ true
  unfolding free_for
  apart_free h = every_of (λ u. not (eqb (number_in numbers u) k && overlap T u t)) T.count (λ u l. clear u (eqb (number_in numbers u) k) refl (h u l))
    where
      clear : (u : ℕ) (b : Bool) → eqb (number_in numbers u) k ≡ b → (number_in numbers u ≡ k → overlap T u t ≡ false) → not (b && overlap T u t) ≡ true
      clear u true e g = rw (g (eqb-true (number_in numbers u) k e))
      clear u false e g = refl

  pub not_free : free_for T numbers t k ≡ false → (u : ℕ) × (u < T.count) × (number_in numbers u ≡ k) × (overlap T u t ≡ true)
  unfolding free_for
  not_free e =
      let (u, l, q) = every_not (λ u. not (eqb (number_in numbers u) k && overlap T u t)) T.count e in
      let o = not-false (eqb (number_in numbers u) k && overlap T u t) q in
      (u, l, eqb-true (number_in numbers u) k (and_1 (eqb (number_in numbers u) k) (overlap T u t) o), and_2 (eqb (number_in numbers u) k) (overlap T u t) o)

-- ---- the next turn gets its number

module _ (T : Turns) (t : ℕ) (ts numbers : List ℕ) (w : Underway T (t ∷ ts) numbers) where
  abbrev next : ℕ
  next = number_for T numbers t

  abbrev after : List ℕ
  after = set numbers t next

  pub next_inside : t < T.count
  next_inside = all_head w.inside

  -- it had none
  pub next_unnumbered : number_in numbers t ≡ 0
  next_unnumbered = elim (dec_lt 0 (number_in numbers t)) [ yes l ↦ absurd (omega (arith, (all_head (w.past t (omega arith))).ties refl)) | no l ↦ omega arith ]

  -- the numbers so far, and one more, are within reach
  abbrev spare : ℕ
  spare = T.count - length ts

  reach : (1 ≤ spare) × (spare ≤ T.count) × (spare + length ts ≡ T.count)
  reach = let f = w.few t in (omega arith, omega arith, omega arith)

  spare_free : free_for T numbers t spare ≡ true
  spare_free = apart_free T numbers t spare (λ u l e. absurd (omega (arith, w.few u, reach)))

  next_from : 1 ≤ next
  unfolding number_for
  next_from = first_from_lem (free_for T numbers t) 1 T.count

  next_free : free_for T numbers t next ≡ true
  unfolding number_for
  next_free = first_passes (free_for T numbers t) 1 T.count spare reach.0 (omega (arith, reach)) spare_free

  next_few : next + length ts ≤ T.count
  unfolding number_for
  next_few = omega (arith, first_least (free_for T numbers t) 1 T.count spare reach.0 spare_free, reach)

  next_taken : (k : ℕ) → 1 ≤ k → k < next → (u : ℕ) × (u < T.count) × (number_in numbers u ≡ k) × (overlap T u t ≡ true)
  unfolding number_for
  next_taken k a l = not_free T numbers t k (first_below (free_for T numbers t) 1 T.count k a l)

  -- what turns have then
  now_has : number_in after t ≡ next
  now_has = get_or-set_same numbers t next 0 (omega (arith, w.places, next_inside))

  still_has : (u : ℕ) → (u ≡ t → ⊥) → number_in after u ≡ number_in numbers u
  still_has u d = get_or-set_other numbers t u next 0 d

  -- a turn that had a number is another
  had_other : (u : ℕ) → 1 ≤ number_in numbers u → u ≡ t → ⊥
  had_other u h e = omega (arith, ap (number_in numbers) e, next_unnumbered)

  had_before : (u : ℕ) → 1 ≤ number_in numbers u → Before T u t
  had_before u h = all_head (w.past u h)

  in_range : (u : ℕ) → 1 ≤ number_in numbers u → u < T.count
  in_range u h = elim (dec_lt u T.count) [ yes l ↦ l | no l ↦ absurd (omega (arith, get_or-eq_default numbers 0 {n = u} (omega (arith, w.places)))) ]

  apart_next : (u : ℕ) → (u ≡ t → ⊥) → number_in numbers u ≡ next → overlap T u t ≡ false
  apart_next u d e = free_apart T numbers t next next_free u (in_range u (omega (arith, next_from))) e

  flip : (x y : ℕ) → overlap T x y ≡ false → overlap T y x ≡ false
  flip x y e = fails (overlap T y x) (λ o. not_both (overlap_sym T y x o) e)

  after_apart : (x y : ℕ) → (x ≡ y → ⊥) → 1 ≤ number_in after x → number_in after x ≡ number_in after y → overlap T x y ≡ false
  after_apart x y d h e = go (ℕ_discrete x t) (ℕ_discrete y t)
    where
      go : Dec (x ≡ t) → Dec (y ≡ t) → overlap T x y ≡ false
      go (yes p) (yes q) = absurd (d (p ∙ sym q))
      go (yes p) (no q) = rw p (flip y t (apart_next y q (sym (still_has y q) ∙ sym e ∙ ap (number_in after) p ∙ now_has)))
      go (no p) (yes q) = rw q (apart_next x p (sym (still_has x p) ∙ e ∙ ap (number_in after) q ∙ now_has))
      go (no p) (no q) = w.apart x y d (omega (arith, still_has x p)) (sym (still_has x p) ∙ e ∙ still_has y q)

  after_smallest : (x k : ℕ) → 1 ≤ k → k < number_in after x → TakenBy T after x k
  after_smallest x k a l = go (ℕ_discrete x t)
    where
      go : Dec (x ≡ t) → TakenBy T after x k
      go (yes p) =
          let (u, i, h, o) = next_taken k a (omega (arith, ap (number_in after) p, now_has)) in
          let had : 1 ≤ number_in numbers u = omega arith in
          rw p (record { turn = u; inside = i; before = had_before u had; has_it = still_has u (had_other u had) ∙ h; overlaps = o })
      go (no p) =
          let old = w.smallest x k a (omega (arith, still_has x p)) in
          let had : 1 ≤ number_in numbers old.turn = omega (arith, old.has_it) in
          record { turn = old.turn; inside = old.inside; before = old.before; has_it = still_has old.turn (had_other old.turn had) ∙ old.has_it; overlaps = old.overlaps }

  rising_rest : Ascending T.start (t ∷ ts) → Ascending T.start ts
  rising_rest (Ascending.more a r) = r

  rising_first : Ascending T.start (t ∷ ts) → All (λ u. Before T t u) ts
  rising_first (Ascending.more a r) = a

  after_past : (u : ℕ) → 1 ≤ number_in after u → All (λ x. Before T u x) ts
  after_past u h = elim (ℕ_discrete u t) [ yes p ↦ rw p (rising_first w.rising) | no p ↦ all_tail (w.past u (omega (arith, still_has u p))) ]

  after_rest : (u : ℕ) → u < T.count → times_in eqb u ts ≡ 0 → 1 ≤ number_in after u
  unfolding times_in
  after_rest u l z = go (ℕ_discrete u t)
    where
      go : Dec (u ≡ t) → 1 ≤ number_in after u
      go (yes p) = rw p (omega (arith, now_has, next_from))
      go (no p) = omega (arith, still_has u p, w.rest u l (rw (ne_eqb u t p) (omega arith)))

  after_few : (u : ℕ) → number_in after u + length ts ≤ T.count
  after_few u = elim (ℕ_discrete u t) [ yes p ↦ rw p (omega (arith, now_has, next_few)) | no p ↦ omega (arith, still_has u p, w.few u) ]

  pub underway_next : Underway T ts after
  underway_next =
      record {
        places = simp length-set w.places;
        rising = rising_rest w.rising;
        inside = all_tail w.inside;
        past = after_past;
        rest = after_rest;
        apart = after_apart;
        smallest = after_smallest;
        few = after_few;
      }

-- ---- all turns

module _ (T : Turns) where
  pub nothing : (u : ℕ) → number_in (replicate T.count 0) u ≡ 0
  nothing u = go (dec_lt u T.count)
    where
      go : Dec (u < T.count) → number_in (replicate T.count 0) u ≡ 0
      go (yes l) = get_or-replicate T.count u 0 0 l
      go (no l) = get_or-eq_default (replicate T.count 0) 0 {n = u} (omega (arith, length-replicate {A = ℕ} T.count 0))

  pub underway_first : Underway T (order_by_start T) (replicate T.count 0)
  underway_first =
      record {
        places = length-replicate {A = ℕ} T.count 0;
        rising = order_rising T;
        inside = order_inside T;
        past = λ u h. absurd (omega (arith, nothing u));
        rest = λ u l z. absurd (omega (arith, order_has T u l));
        apart = λ x y d h. absurd (omega (arith, nothing x));
        smallest = λ t k a l. absurd (omega (arith, nothing t));
        few = λ u. omega (arith, nothing u, order_length T);
      }

  pub underway_all : (ts numbers : List ℕ) → Underway T ts numbers → Underway T [] (number_all T ts numbers)
  unfolding number_all
  underway_all [] numbers w = w
  underway_all (t ∷ ts) numbers w = underway_all ts (set numbers t (number_for T numbers t)) (underway_next T t ts numbers w)

  pub numbers_underway : Underway T [] (numbers_of T)
  unfolding numbers_of
  numbers_underway = underway_all (order_by_start T) (replicate T.count 0) underway_first

  -- no two turns of one number overlap, each lengthened by the gap
  pub same_number_apart : (x y : ℕ) → x < T.count → y < T.count → (x ≡ y → ⊥) → number_in (numbers_of T) x ≡ number_in (numbers_of T) y → overlap T x y ≡ false
  unfolding times_in
  same_number_apart x y l m d e = numbers_underway.apart x y d (numbers_underway.rest x l refl) e

  pub numbers_assignment : Assignment T (number_in (numbers_of T))
  numbers_assignment x y minute l m d e p q = not_both (minute_overlap T x y minute p q) (same_number_apart x y l m d e)

  pub numbers_places : length (numbers_of T) ≡ T.count
  numbers_places = numbers_underway.places

  pub numbers_from_one : (t : ℕ) → t < T.count → 1 ≤ number_in (numbers_of T) t
  unfolding times_in
  numbers_from_one t l = numbers_underway.rest t l refl

  -- what the test finds taken is taken in words, where every turn is a minute long or longer
  taken_words : PositiveLengths T → {numbers : List ℕ} {t k : ℕ} → t < T.count → TakenBy T numbers t k → TakenFor T numbers t k
  taken_words lengths {t = t} l b =
      let m = overlap_minute T b.turn t (lengths b.turn b.inside) (lengths t l) b.overlaps in
      record { turn = b.turn; inside = b.inside; before = b.before; has_it = b.has_it; minute = m.0; its_minute = m.1; own_minute = m.2 }

  -- each number is the smallest from 1 that is free when its turn comes
  pub numbers_greedy : PositiveLengths T → GreedyNumbers T (numbers_of T)
  numbers_greedy lengths =
      record {
        places = numbers_places;
        from_one = numbers_from_one;
        free = λ t l k. not_both (minute_overlap T k.turn t k.minute k.its_minute k.own_minute) (same_number_apart k.turn t k.inside l (λ e. before_another k.turn t k.before e) k.has_it);
        smallest = λ t k l a m. taken_words lengths l (numbers_underway.smallest t k a m);
      }
    where
      before_another : (x y : ℕ) → Before T x y → x ≡ y → ⊥
      before_another x y b e = omega (arith, b.ties (ap T.start e))
