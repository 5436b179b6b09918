-- Turns get their numbers by the busy times of the groomers, by cases; each premise is in the form in which the code leaves it. Assumes nothing.
use mathlib.Core.Path.{◌≡◌, refl, sym, ap, ◌∙◌}
use mathlib.Core.Logic.{◌⊎◌, inl, inr}
use mathlib.Core.Bool.{true, false}
use mathlib.Core.List.{List, [], ◌∷◌}
use Prim.Native.Nat.{ℕ, zero, suc, ◌+◌, ◌≤◌, ◌<◌, max, min}
use native.Mathlib.Omega.{arith}
use Rattle.std.proofs.Math.Nat.{max_comm}
use native.Mathlib.Numerals.{add-one}
use native.Mathlib.Decide.{dec_lt, ℕ_discrete}
use lib.ListN.{length, get_or, set, drop, replicate, length-set, length-replicate, drop_of_length-le, get_or-eq_default}
use lib.Seq.{get_or-set_same, get_or-set_other, drop-cons}
use Rattle.lists.proofs.Bools.{not_both, fails}
use Rattle.lists.proofs.Sums.{all_head}
use Rattle.model.specs.Turns.{Turns, PositiveLengths, overlap}
use Rattle.model.proofs.Conflicts.{overlap_lt, lt_overlap}
use Rattle.turn.specs.Turn.{shift_minutes}
use Rattle.sheet.specs.Kind.{most_turns}
use Rattle.instance.specs.declared.ways.Row.{Row}
use Rattle.instance.specs.declared.columns.Size.{Size}
use Rattle.instance.specs.Columns.{row_in, turns_by, Held}
use Rattle.instance.proofs.Rows.{count_is, gap_is, start_at, end_at, lengths_are}
use Rattle.assign.specs.declared.assigning.Groomers.{Groomers}
use Rattle.assign_spec.specs.Numbering.{number_in, free_for, number_for, number_all, numbers_of, greatest, used_of}
use Rattle.instance_spec.specs.ByStart.{order_by_start}
use Rattle.assign_spec.specs.Underway.{Underway}
use Rattle.assign.specs.Serving.{NextIn, BusyUntil, NoneBefore, FirstFree, Serving}
use Rattle.assign_spec.proofs.Smallest.{first_is, greatest_above, greatest_to, greatest_set}
use Rattle.instance_spec.proofs.ByStart.{order_length}
use Rattle.assign_spec.proofs.Numbers.{free_apart, apart_free, next_inside, next_unnumbered, underway_next, underway_first, nothing}

-- ---- the first groomer that is free

-- all are busy before the earliest minute
pub free_none : (busy : List ℕ) (g : Groomers) (start : ℕ) → start < g.earliest → NoneBefore busy g → FirstFree busy g.used start g.used
unfolding NoneBefore
free_none busy g start l n = record { known = omega arith; over = λ m. absurd (omega arith); before = λ j m. omega (arith, n j m) }

pub earliest_none : (busy : List ℕ) (m : ℕ) → NoneBefore busy (record { used = 0; earliest = m })
unfolding NoneBefore
earliest_none busy m k l = absurd (omega arith)

-- groomer k is busy until a minute
module _ (busy : List ℕ) (g : Groomers) (start k until e : ℕ) (f : FirstFree busy g.used start k) (n : NoneBefore busy g) (w : length busy ≡ most_turns) (u : g.used < most_turns) (q : e ≡ min g.earliest until) where
  earliest_at : (j : ℕ) → (j ≡ k → ⊥) ⊎ (j ≡ k) → j < max (k + 1) g.used → e ≤ get_or (set busy k until) j 0
  unfolding NoneBefore
  earliest_at j (inl d) l = omega (arith, q, get_or-set_other busy k j until 0 d, n j (omega (arith, f.known)))
  earliest_at j (inr d) l = rw (d, get_or-set_same busy k until 0 (omega (arith, f.known))) (omega (arith, q))

  each : (j : ℕ) → j < max (k + 1) g.used → e ≤ get_or (set busy k until) j 0
  each j l = elim (ℕ_discrete j k) [ yes d ↦ earliest_at j (inr d) l | no d ↦ earliest_at j (inl d) l ]

  pub earliest_then : {m : ℕ} → m ≡ max g.used (k + 1) → NoneBefore (set busy k until) (record { used = m; earliest = e })
  unfolding NoneBefore
  earliest_then h j l = each j (omega (arith, h))

pub ruleset free_cases = (free_none)

-- ---- a turn gets its number

used_few : (T : Turns) (numbers : List ℕ) (t used : ℕ) (busy : List ℕ) → NextIn T numbers t → BusyUntil T numbers used busy → used < T.count
used_few T numbers t used busy n b = below T.count n.inside n.few
  where
    below : (c : ℕ) → t < c → ((u : ℕ) → number_in numbers u < c) → used < c
    below zero l h = absurd (omega arith)
    below (suc c) l h = omega (arith, b.many, greatest_to numbers c (λ u. omega (arith, h u)))

module _ (T : Turns) (numbers : List ℕ) (t used k : ℕ) (busy : List ℕ) (lengths : PositiveLengths T) (n : NextIn T numbers t) (b : BusyUntil T numbers used busy) (f : FirstFree busy used (T.start t) k) where
  inside : (u : ℕ) → 1 ≤ number_in numbers u → u < T.count
  inside u h = elim (dec_lt u T.count) [ yes l ↦ l | no l ↦ absurd (omega (arith, get_or-eq_default numbers 0 {n = u} (omega (arith, n.places)))) ]

  another : (u j : ℕ) → number_in numbers u ≡ j + 1 → u ≡ t → ⊥
  another u j e q = omega (arith, ap (number_in numbers) q, n.none)

  -- a groomer that is busy is not free
  is_taken : (j : ℕ) → j < k → free_for T numbers t (j + 1) ≡ false
  is_taken j l =
      let (u, e, q) = b.last j (omega (arith, f.known)) in
      let i = inside u (omega arith) in
      let o = lt_overlap T u t (omega (arith, n.later u (omega arith), lengths t n.inside), omega (arith, f.before j l)) in
      fails (free_for T numbers t (j + 1)) (λ g. not_both o (free_apart T numbers t (j + 1) g u i e))

  -- one whose busy time is over is
  over_before : (u : ℕ) → number_in numbers u ≡ k + 1 → T.end u + T.gap ≤ T.start t
  over_before u e = let m : k < used = omega (arith, greatest_above numbers u, b.many) in omega (arith, b.till u k e, f.over m)

  is_free : free_for T numbers t (k + 1) ≡ true
  is_free = apart_free T numbers t (k + 1) (λ u l e. fails (overlap T u t) (λ o. omega (arith, overlap_lt T u t o, over_before u e)))

  pub number_is : number_for T numbers t ≡ k + 1
  unfolding number_for
  number_is =
      first_is (free_for T numbers t) 1 T.count (k + 1) (omega arith) is_free below (omega (arith, f.known, used_few T numbers t used busy n b))
    where
      below : (i : ℕ) → 1 ≤ i → i < k + 1 → free_for T numbers t i ≡ false
      below zero h l = absurd (omega arith)
      below (suc i) h l = rw (add-one i) at (is_taken i (omega arith))

  abbrev numbers' : List ℕ
  numbers' = set numbers t (k + 1)

  abbrev busy' : List ℕ
  busy' = set busy k (T.end t + T.gap)

  has_new : number_in numbers' t ≡ k + 1
  has_new = get_or-set_same numbers t (k + 1) 0 (omega (arith, n.places, n.inside))

  has_old : (u : ℕ) → (u ≡ t → ⊥) → number_in numbers' u ≡ number_in numbers u
  has_old u d = get_or-set_other numbers t u (k + 1) 0 d

  busy_new : T.count ≤ most_turns → get_or busy' k 0 ≡ T.end t + T.gap
  busy_new few = get_or-set_same busy k (T.end t + T.gap) 0 (omega (arith, b.places, f.known, used_few T numbers t used busy n b))

  busy_old : (j : ℕ) → (j ≡ k → ⊥) → get_or busy' j 0 ≡ get_or busy j 0
  busy_old j d = get_or-set_other busy k j (T.end t + T.gap) 0 d

  till_then : T.count ≤ most_turns → (u j : ℕ) → number_in numbers' u ≡ j + 1 → T.end u + T.gap ≤ get_or busy' j 0
  till_then few u j e = go (ℕ_discrete u t) (ℕ_discrete j k)
    where
      go : Dec (u ≡ t) → Dec (j ≡ k) → T.end u + T.gap ≤ get_or busy' j 0
      go (yes p) (yes q) = rw (p, q, busy_new few) (omega arith)
      go (yes p) (no q) = absurd (q (omega (arith, ap (number_in numbers') p, has_new)))
      go (no p) (yes q) = rw (q, busy_new few) (omega (arith, over_before u (sym (has_old u p) ∙ e ∙ ap (λ (x : ℕ). x + 1) q), lengths t n.inside))
      go (no p) (no q) = omega (arith, busy_old j q, b.till u j (sym (has_old u p) ∙ e))

  last_then : T.count ≤ most_turns → (j : ℕ) → j < max (k + 1) used → (u : ℕ) × (number_in numbers' u ≡ j + 1) × (get_or busy' j 0 ≡ T.end u + T.gap)
  last_then few j l = go (ℕ_discrete j k)
    where
      go : Dec (j ≡ k) → (u : ℕ) × (number_in numbers' u ≡ j + 1) × (get_or busy' j 0 ≡ T.end u + T.gap)
      go (yes q) = (t, has_new ∙ ap (λ (x : ℕ). x + 1) (sym q), rw q (busy_new few))
      go (no q) = let (u, e, h) = b.last j (omega (arith, f.known)) in (u, has_old u (another u j e) ∙ e, busy_old j q ∙ h)

  pub busy_then : T.count ≤ most_turns → BusyUntil T numbers' (max (k + 1) used) busy'
  busy_then few =
      record {
        places = simp length-set b.places;
        many = rw b.many (sym (greatest_set numbers t (k + 1) (omega (arith, n.places, n.inside)) n.none));
        till = till_then few;
        last = last_then few;
      }

-- as the code leaves it

module _ (p : Size) (cols numbers : List ℕ) (t : ℕ) (h : Held p cols) (n : NextIn (turns_by p cols) numbers t) where
  pub turn_inside : t < p.count
  turn_inside = omega (arith, n.inside, count_is p cols)

  pub turn_few : t < most_turns
  turn_few = omega (arith, turn_inside, h.few)

  module _ (used : ℕ) (busy : List ℕ) (b : BusyUntil (turns_by p cols) numbers used busy) where
    count_few : (turns_by p cols).count ≤ most_turns
    count_few = omega (arith, h.few, count_is p cols)

    pub used_least : used < most_turns
    used_least = omega (arith, used_few (turns_by p cols) numbers t used busy n b, count_few)

    module _ {r : Row} (k : ℕ) (q : r ≡ row_in cols t) (f : FirstFree busy used r.start k) where
      first : FirstFree busy used ((turns_by p cols).start t) k
      first = rw (start_at p cols t turn_inside q) at f

      pub number_written : set numbers t (k + 1) ≡ set numbers t (number_for (turns_by p cols) numbers t)
      number_written = ap (set numbers t) (sym (number_is (turns_by p cols) numbers t used k busy (lengths_are p cols h) n b first))

      pub turn_then : {m : ℕ} → m ≡ max used (k + 1) → BusyUntil (turns_by p cols) (set numbers t (k + 1)) m (set busy k (r.end + p.gap))
      turn_then m = let e : r.end + p.gap ≡ (turns_by p cols).end t + (turns_by p cols).gap = omega (arith, end_at p cols t turn_inside q, gap_is p cols) in rw (m, max_comm used (k + 1), e) (busy_then (turns_by p cols) numbers t used k busy (lengths_are p cols h) n b first count_few)

  pub until_fits : {r : Row} → r ≡ row_in cols t → shift_minutes + p.gap < 65536 → r.end + p.gap < 65536
  until_fits q l = omega (arith, end_at p cols t turn_inside q, h.ends t turn_inside)

pub ruleset numbering_cases = (turn_few, number_written, turn_then, until_fits, earliest_then)

-- ---- all turns

module _ (p : Size) (cols : List ℕ) where
  abbrev T : Turns
  T = turns_by p cols

  pub serving_first : (numbers : List ℕ) → numbers ≡ replicate p.count 0 → Serving (turns_by p cols) 0 0 (replicate most_turns 0) numbers
  unfolding numbers_of
  serving_first numbers e =
      let q : numbers ≡ replicate T.count 0 = rw (count_is p cols) e in
      rw q (
      record {
        underway = underway_first T;
        ahead = refl;
        groomers =
            record {
              places = length-replicate {A = ℕ} most_turns 0;
              many = let m = greatest_to (replicate T.count 0) 0 (λ u. omega (arith, nothing T u)) in omega arith;
              till = λ u k h. absurd (omega (arith, nothing T u));
              last = λ k l. absurd (omega arith);
            };
      })

  module _ (i used : ℕ) (busy numbers : List ℕ) (w : Serving (turns_by p cols) i used busy numbers) where
    order_many : length (order_by_start T) ≡ p.count
    order_many = order_length T ∙ count_is p cols

    module _ (l : i < p.count) where
      abbrev turn : ℕ
      turn = get_or (order_by_start T) i 0

      ahead_is : drop i (order_by_start T) ≡ turn ∷ drop (suc i) (order_by_start T)
      ahead_is = drop-cons (order_by_start T) i 0 (omega (arith, order_many))

      underway_here : Underway T (turn ∷ drop (suc i) (order_by_start T)) numbers
      underway_here = rw ahead_is at w.underway

      pub serving_turn : NextIn T numbers turn
      serving_turn =
          record {
            inside = next_inside T turn (drop (suc i) (order_by_start T)) numbers underway_here;
            places = w.underway.places;
            none = next_unnumbered T turn (drop (suc i) (order_by_start T)) numbers underway_here;
            later = λ u h. (all_head (underway_here.past u h)).values;
            few = λ u. omega (arith, underway_here.few u);
          }

      pub serving_more : {used' : ℕ} {busy' numbers' : List ℕ} → numbers' ≡ set numbers turn (number_for T numbers turn) → BusyUntil T numbers' used' busy' → Serving T (i + 1) used' busy' numbers'
      unfolding number_all
      serving_more {used'} {busy'} {numbers'} e b =
          record {
            underway = rw (add-one i, e) (underway_next T turn (drop (suc i) (order_by_start T)) numbers underway_here);
            ahead = rw (add-one i, e) (rw ahead_is at w.ahead);
            groomers = b;
          }

    module _ (g : p.count ≤ i) where
      over : drop i (order_by_start T) ≡ []
      over = drop_of_length-le (order_by_start T) {i = i} (omega (arith, order_many))

      pub numbers_done : numbers ≡ numbers_of (turns_by p cols)
      unfolding number_all
      numbers_done = rw over at w.ahead

      pub used_done : used ≡ used_of (turns_by p cols)
      unfolding used_of
      used_done = w.groomers.many ∙ ap greatest numbers_done

    pub serving_few : Held p cols → used ≤ most_turns
    serving_few h = omega (arith, w.groomers.many, greatest_to numbers most_turns (λ u. omega (arith, w.underway.few u, count_is p cols, h.few)))
