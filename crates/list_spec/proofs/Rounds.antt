-- A groomer's round has just its chosen turns, by start; and the rounds of all groomers together have as many turns as are chosen. Assumes nothing.
use Prim.Native.Nat.{ℕ, zero, suc, ◌+◌, ◌<◌, ◌≤◌}
use mathlib.Core.Path.{◌≡◌, refl, sym, ◌∙◌, ap}
use mathlib.Core.Logic.{◌⊎◌, inl, inr}
use mathlib.Core.Bool.{Bool, true, false, cond, ◌&&◌}
use mathlib.Core.List.{List, [], ◌∷◌, ◌++◌}
use native.Mathlib.Omega.{arith}
use native.Mathlib.Decide.{ℕ_discrete}
use lib.Dec.{eqb}
use lib.ListN.{length, length-append}
use borrow.Author.Tests.{eq-eqb, eqb-true}
use Rattle.lists.specs.Lists.{sum_over, below, All, none, more, In, here, later}
use Rattle.model.specs.Turns.{Turns, PositiveLengths, same_groomer}
use Rattle.model.specs.Choice.{has, chosen}
use Rattle.model.specs.Rules.{Independent}
use Rattle.model.specs.Feasible.{Distinct, empty, other}
use Rattle.lists.proofs.Bools.{fails, not_apart, and_1, and_2, and_of}
use Rattle.lists.proofs.Sums.{sum_add, sum_zero, sum_same, sum_swap, sum_hit, all_of, all_map, all_append, in_first, in_second}
use Rattle.choice_map.specs.Choice.{ones_in, map_of}
use Rattle.choice_map.proofs.Clean.{map_choice, map_clean}
use Rattle.choice_map.proofs.Counts.{ones_turns}
use Rattle.turn.specs.Turn.{shift_minutes}
use Rattle.list_spec.specs.Round.{starts_at, starts_below, round_from, round_of, Rising, Round, StartsApart}
use Rattle.list_spec.specs.Round as round

-- ---- two of a groomer's chosen turns that start together share that minute

pub apart_starts : (T : Turns) (S : List Bool) → Independent T S → PositiveLengths T → StartsApart T S
apart_starts T S apart lengths u v l m p q g s =
    not_apart u v
    (λ e.
    apart u v l m e p q
    (same_groomer g (T.start u) (record { begun = omega arith; not_over = omega (arith, lengths u l) }) (record { begun = omega arith; not_over = omega (arith, lengths v m) })))

-- ---- which turns stand in two lists, one after the other

in_either : (u : ℕ) (us vs : List ℕ) → In u (us ++ vs) → In u us ⊎ In u vs
in_either u [] vs i = inr i
in_either u (v ∷ us) vs here = inl here
in_either u (v ∷ us) vs (later i) = elim (in_either u us vs i) [ inl j ↦ inl (later j) | inr j ↦ inr j ]

in_all : {P : ℕ → Type 0} (us : List ℕ) → ((u : ℕ) → In u us → P u) → All P us
in_all [] h = none
in_all (u ∷ us) h = more (h u here) (in_all us (λ v i. h v (later i)))

rising_append : {T : Turns} {us vs : List ℕ} → Rising T us → Rising T vs → All (λ u. All (λ v. T.start u < T.start v) vs) us → Rising T (us ++ vs)
rising_append round.none k none = k
rising_append (round.more a h) k (more b c) = round.more (all_append a b) (rising_append h k c)

-- a list of turn i where b holds, else of none
in_one : (b : Bool) {u i : ℕ} → In u (cond b (i ∷ []) []) → (b ≡ true) × (u ≡ i)
in_one true here = (refl, refl)
in_one true {u = u} {i = i} (later x5) = elim x5 [ ]
in_one false {u = u} {i = i} x' = elim x' [ ]

-- ---- those that start in one minute

module _ (T : Turns) (S : List Bool) (h : ℕ) where
  -- turn u is chosen, is the groomer's, and starts in this minute
  abbrev Begins : ℕ → ℕ → Type 0
  Begins minute u = (has S u ≡ true) × (T.groomer u ≡ h) × (T.start u ≡ minute)

  -- it is so by the test, and one of the first i turns
  abbrev Below : ℕ → ℕ → ℕ → Type 0
  Below minute i u = (u < i) × (starts_at T S h minute u ≡ true)

  -- it is one of the sheet's, and starts in this minute or a later one
  abbrev Since : ℕ → ℕ → Type 0
  Since minute u = (u < T.count) × (has S u ≡ true) × (T.groomer u ≡ h) × (minute ≤ T.start u)

  at_all : (minute u : ℕ) → starts_at T S h minute u ≡ true → Begins minute u
  unfolding starts_at
  at_all minute u e =
      let both : (eqb (T.groomer u) h && eqb (T.start u) minute) ≡ true = and_2 (has S u) (eqb (T.groomer u) h && eqb (T.start u) minute) e in (
        and_1 (has S u) (eqb (T.groomer u) h && eqb (T.start u) minute) e,
        eqb-true (T.groomer u) h (and_1 (eqb (T.groomer u) h) (eqb (T.start u) minute) both),
        eqb-true (T.start u) minute (and_2 (eqb (T.groomer u) h) (eqb (T.start u) minute) both),
      )

  at_of : (minute u : ℕ) → has S u ≡ true → T.groomer u ≡ h → T.start u ≡ minute → starts_at T S h minute u ≡ true
  unfolding starts_at
  at_of minute u p g s =
      and_of (has S u) (eqb (T.groomer u) h && eqb (T.start u) minute) p (and_of (eqb (T.groomer u) h) (eqb (T.start u) minute) (eq-eqb (T.groomer u) h g) (eq-eqb (T.start u) minute s))

  below_all : (minute i u : ℕ) → In u (starts_below T S h minute i) → Below minute i u
  unfolding starts_below
  below_all minute (suc i) u m = go (in_either u (starts_below T S h minute i) (cond (starts_at T S h minute i) (i ∷ []) []) m) (below_all minute i u)
    where
      go : In u (starts_below T S h minute i) ⊎ In u (cond (starts_at T S h minute i) (i ∷ []) []) → (In u (starts_below T S h minute i) → Below minute i u) → Below minute (suc i) u
      go (inl k) ih = let r : Below minute i u = ih k in (omega (arith, r.0), r.1)
      go (inr k) ih = let r : (starts_at T S h minute i ≡ true) × (u ≡ i) = in_one (starts_at T S h minute i) k in (omega (arith, r.1), ap (starts_at T S h minute) r.1 ∙ r.0)
  below_all minute zero u m = elim m [ ]

  below_of : (minute i u : ℕ) → u < i → starts_at T S h minute u ≡ true → In u (starts_below T S h minute i)
  unfolding starts_below
  below_of minute zero u l e = absurd (omega arith)
  below_of minute (suc i) u l e = go (ℕ_discrete u i) (λ k. below_of minute i u k e)
    where
      go : Dec (u ≡ i) → (u < i → In u (starts_below T S h minute i)) → In u (starts_below T S h minute i ++ cond (starts_at T S h minute i) (i ∷ []) [])
      go (yes q) ih = let f : starts_at T S h minute i ≡ true = sym (ap (starts_at T S h minute) q) ∙ e in in_second (starts_below T S h minute i) (rw (f, q) here)
      go (no q) ih = in_first (cond (starts_at T S h minute i) (i ∷ []) []) (ih (omega arith))

  below_rising : StartsApart T S → (minute i : ℕ) → i ≤ T.count → Rising T (starts_below T S h minute i)
  unfolding starts_below
  below_rising apart minute zero l = round.none
  below_rising apart minute (suc i) l =
      rising_append (below_rising apart minute i (omega arith)) (alone (starts_at T S h minute i))
      (in_all (starts_below T S h minute i)
      (λ u m. in_all (cond (starts_at T S h minute i) (i ∷ []) []) (λ v k. absurd (twice u v (below_all minute i u m) (in_one (starts_at T S h minute i) k)))))
    where
      alone : (b : Bool) → Rising T (cond b (i ∷ []) [])
      alone true = round.more none round.none
      alone false = round.none

      -- the turn at the end is not among those before it
      twice : (u v : ℕ) → Below minute i u → (starts_at T S h minute i ≡ true) × (v ≡ i) → ⊥
      twice u v a b =
          let p : Begins minute u = at_all minute u a.1 in
          let q : Begins minute i = at_all minute i b.0 in
          let e : u ≡ i = apart u i (omega (arith, a.0)) (omega arith) p.0 q.0 (p.1 ∙ sym q.1) (p.2 ∙ sym q.2) in
          omega (arith, e, a.0)

  -- ---- those that start in the minutes after it

  from_all : (d minute u : ℕ) → In u (round_from T S h d minute) → Since minute u
  unfolding round_from
  from_all (suc d) minute u m = go (in_either u (starts_below T S h minute T.count) (round_from T S h d (minute + 1)) m) (from_all d (minute + 1) u)
    where
      go :
          In u (starts_below T S h minute T.count) ⊎ In u (round_from T S h d (minute + 1)) →
          (In u (round_from T S h d (minute + 1)) → Since (minute + 1) u) →
          Since minute u
      go (inl k) ih =
          let b : Below minute T.count u = below_all minute T.count u k in
          let a : Begins minute u = at_all minute u b.1 in
          (b.0, a.0, a.1, omega (arith, a.2))
      go (inr k) ih =
          let r : Since (minute + 1) u = ih k in
          (r.0, r.1, r.2, omega (arith, r.3))
  from_all zero minute u m = elim m [ ]

  from_of : (d minute u : ℕ) → u < T.count → has S u ≡ true → T.groomer u ≡ h → minute ≤ T.start u → T.start u < minute + d → In u (round_from T S h d minute)
  unfolding round_from
  from_of zero minute u l p g a b = absurd (omega arith)
  from_of (suc d) minute u l p g a b = go (ℕ_discrete (T.start u) minute) (λ k. from_of d (minute + 1) u l p g k (omega arith))
    where
      go : Dec (T.start u ≡ minute) → (minute + 1 ≤ T.start u → In u (round_from T S h d (minute + 1))) → In u (starts_below T S h minute T.count ++ round_from T S h d (minute + 1))
      go (yes s) ih = in_first (round_from T S h d (minute + 1)) (below_of minute T.count u l (at_of minute u p g s))
      go (no s) ih = in_second (starts_below T S h minute T.count) (ih (omega arith))

  from_rising : StartsApart T S → (d minute : ℕ) → Rising T (round_from T S h d minute)
  unfolding round_from
  from_rising apart zero minute = round.none
  from_rising apart (suc d) minute =
      rising_append (below_rising apart minute T.count (omega arith)) (from_rising apart d (minute + 1))
      (in_all (starts_below T S h minute T.count) (λ u m. in_all (round_from T S h d (minute + 1)) (λ v k. sooner u v (below_all minute T.count u m) (from_all d (minute + 1) v k))))
    where
      sooner : (u v : ℕ) → Below minute T.count u → Since (minute + 1) v → T.start u < T.start v
      sooner u v a b =
          let p : Begins minute u = at_all minute u a.1 in
          omega (arith, p.2, b.3)

-- ---- the round of a groomer

pub round_is : (T : Turns) (S : List Bool) (h : ℕ) → StartsApart T S → ((u : ℕ) → u < T.count → T.start u < shift_minutes) → Round T S h (round_of T S h)
unfolding round_of
round_is T S h apart starts =
    record {
      turns = λ u. (
        λ m. let r : Since T S h 0 u = from_all T S h shift_minutes 0 u m in (r.0, r.1, r.2),
        λ r. from_of T S h shift_minutes 0 u r.0 r.1 r.2 (omega arith) (starts u r.0),
      );
      by_start = from_rising T S h apart shift_minutes 0;
    }

-- ---- each turn of a rising list starts before the next, so that none stands twice

pub round_once : {T : Turns} {us : List ℕ} → Rising T us → Distinct us
round_once round.none = empty
round_once {T} (round.more {u} a h) = other {t = u} (all_map (λ v l e. omega (arith, l, ap T.start e)) a) (round_once h)

-- ---- how many turns the rounds have

module _ (T : Turns) (S : List Bool) (h : ℕ) where
  -- how often turn u starts in d minutes from this one on
  met : ℕ → ℕ → ℕ → ℕ
  met zero minute u = 0
  met (suc d) minute u = cond (starts_at T S h minute u) 1 0 + met d (minute + 1) u

  below_length : (minute i : ℕ) → length (starts_below T S h minute i) ≡ sum_over (λ u. cond (starts_at T S h minute u) 1 0) (below i)
  unfolding starts_below
  below_length minute zero = refl
  below_length minute (suc i) = omega (arith, length-append (starts_below T S h minute i) (cond (starts_at T S h minute i) (i ∷ []) []), one (starts_at T S h minute i), below_length minute i)
    where
      one : (b : Bool) → length (cond b (i ∷ []) []) ≡ cond b 1 0
      one true = refl
      one false = refl

  from_length : (d minute : ℕ) → length (round_from T S h d minute) ≡ sum_over (met d minute) (below T.count)
  unfolding round_from met
  from_length zero minute = sym (sum_zero (met zero minute) (all_of (λ u. refl) (below T.count)))
  from_length (suc d) minute =
      omega (
        arith,
        length-append (starts_below T S h minute T.count) (round_from T S h d (minute + 1)),
        below_length minute T.count,
        from_length d (minute + 1),
        sum_add (λ u. cond (starts_at T S h minute u) 1 0) (met d (minute + 1)) (below T.count),
      )

  at_other : (minute u : ℕ) → (T.start u ≡ minute → ⊥) → starts_at T S h minute u ≡ false
  at_other minute u e = fails (starts_at T S h minute u) (λ a. e (at_all T S h minute u a).2)

  at_start : (minute u : ℕ) → T.start u ≡ minute → starts_at T S h minute u ≡ (has S u && eqb (T.groomer u) h)
  unfolding starts_at
  at_start minute u e = rw (eq-eqb (T.start u) minute e) (last (has S u) (eqb (T.groomer u) h))
    where
      last : (a b : Bool) → (a && (b && true)) ≡ (a && b)
      last true true = refl
      last true false = refl
      last false b = refl

  met_over : (d minute u : ℕ) → T.start u < minute → met d minute u ≡ 0
  unfolding met
  met_over zero minute u l = refl
  met_over (suc d) minute u l = rw (at_other minute u (omega arith), met_over d (minute + 1) u (omega arith))

  met_once : (d minute u : ℕ) → minute ≤ T.start u → T.start u < minute + d → met d minute u ≡ cond (has S u && eqb (T.groomer u) h) 1 0
  unfolding met
  met_once zero minute u a b = absurd (omega arith)
  met_once (suc d) minute u a b = go (ℕ_discrete (T.start u) minute) (λ l. met_once d (minute + 1) u l (omega arith))
    where
      go :
          Dec (T.start u ≡ minute) →
          (minute + 1 ≤ T.start u → met d (minute + 1) u ≡ cond (has S u && eqb (T.groomer u) h) 1 0) →
          cond (starts_at T S h minute u) 1 0 + met d (minute + 1) u ≡ cond (has S u && eqb (T.groomer u) h) 1 0
      go (yes e) ih = rw (at_start minute u e, met_over d (minute + 1) u (omega arith)) (omega arith)
      go (no e) ih = rw (at_other minute u e, ih (omega arith)) (omega arith)

  round_length : ((u : ℕ) → u < T.count → T.start u < shift_minutes) → length (round_of T S h) ≡ sum_over (λ u. cond (has S u && eqb (T.groomer u) h) 1 0) (below T.count)
  unfolding round_of
  round_length starts =
      from_length shift_minutes 0
      ∙ sum_same (met shift_minutes 0) (λ u. cond (has S u && eqb (T.groomer u) h) 1 0) T.count (λ u l. met_once shift_minutes 0 u (omega arith) (starts u l))

-- the groomers are numbered from 1
pub rounds_count :
    (T : Turns) (S : List Bool) (groomers : ℕ) →
    ((u : ℕ) → u < T.count → 1 ≤ T.groomer u) → ((u : ℕ) → u < T.count → T.groomer u ≤ groomers) → ((u : ℕ) → u < T.count → T.start u < shift_minutes) →
    sum_over (λ k. length (round_of T S (k + 1))) (below groomers) ≡ chosen T.count S (λ t. 1)
unfolding chosen
rounds_count T S groomers least most starts =
    sum_same (λ k. length (round_of T S (k + 1))) (λ k. sum_over (its k) (below T.count)) groomers (λ k l. round_length T S (k + 1) starts)
    ∙ sum_swap its (below groomers) (below T.count)
    ∙ sum_same (λ u. sum_over (λ k. its k u) (below groomers)) (λ u. cond (has S u) 1 0) T.count (λ u l. one u l (has S u))
  where
    its : ℕ → ℕ → ℕ
    its k u = cond (has S u && eqb (T.groomer u) (k + 1)) 1 0

    one : (u : ℕ) → u < T.count → (b : Bool) → sum_over (λ k. cond (b && eqb (T.groomer u) (k + 1)) 1 0) (below groomers) ≡ cond b 1 0
    one u l true = sum_hit groomers (T.groomer u) (least u l) (most u l)
    one u l false = sum_zero (λ k. 0) (all_of (λ k. refl) (below groomers))

pub rounds_ones :
    (T : Turns) (S : List Bool) (groomers : ℕ) → length S ≡ T.count →
    ((u : ℕ) → u < T.count → 1 ≤ T.groomer u) → ((u : ℕ) → u < T.count → T.groomer u ≤ groomers) → ((u : ℕ) → u < T.count → T.start u < shift_minutes) →
    sum_over (λ k. length (round_of T S (k + 1))) (below groomers) ≡ ones_in (map_of S)
rounds_ones T S groomers e least most starts =
    rounds_count T S groomers least most starts
    ∙ ap (λ (n : ℕ). chosen n S (λ t. 1)) (sym e)
    ∙ ap (λ (R : List Bool). chosen (length S) R (λ t. 1)) (sym (map_choice S))
    ∙ sym (ones_turns (length S) (map_of S) (map_clean S).size (map_clean S).clear)
