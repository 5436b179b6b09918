-- What delays do: with longer ones no turn begins earlier, and a day without any goes as planned. Assumes nothing.
use mathlib.Core.Path.{◌≡◌, refl, sym, ◌∙◌, ap}
use mathlib.Core.Bool.{Bool, true, false, cond}
use mathlib.Core.List.{List, [], ◌∷◌, ◌++◌}
use Prim.Native.Nat.{ℕ, zero, suc, ◌+◌, ◌-◌, ◌*◌, ◌≤◌, ◌<◌, max}
use native.Mathlib.Omega.{arith}
use native.Mathlib.Decide.{dec_lt, ℕ_discrete}
use native.Mathlib.Nat.{le-max_left, le-max_right, max-le, max-eq_left}
use lib.Dec.{eqb}
use lib.ListN.{length, take}
use borrow.Author.Tests.{eq-eqb, ne_eqb, eqb-true}
use Rattle.lists.proofs.Bools.{and_1, and_2, and_of}
use Rattle.model.specs.Turns.{Turns, PositiveLengths, same_groomer}
use Rattle.model.specs.Choice.{has}
use Rattle.model.specs.Rules.{Independent}
use Rattle.lists.specs.Lists.{All}
use Rattle.lists.specs.Sorting.{times_in}
use Rattle.instance_spec.specs.ByStart.{order_by_start}
use Rattle.assign_spec.specs.Numbering.{Before}
use Rattle.lists.specs.Order.{Ascending}
use Rattle.lists.proofs.Sums.{all_head}
use Rattle.instance_spec.proofs.ByStart.{order_inside, order_rising, order_has}
use Rattle.turn.specs.Turn.{shift_minutes}
use Rattle.play_spec.specs.declared.Stint.{Stint}
use Rattle.play_spec.specs.DayTable.{day_rows}
use Rattle.play_spec.specs.Day.{over_minutes, stint_of, stints_from, takes, taken_of, day_of, Doing, works, drives, stands, doing_at, NoEarlier, OnTime}
use Rattle.play_spec.proofs.Stints.{doing_before, doing_in, doing_over, doing_after}

-- ---- longer delays

module _ (T : Turns) (short long : ℕ → ℕ) (more : (u : ℕ) → short u ≤ long u) where
  no_earlier_lem : (us : List ℕ) (free free' : ℕ) → free ≤ free' → NoEarlier (stints_from T short free us) (stints_from T long free' us)
  unfolding stints_from stint_of
  no_earlier_lem [] free free' l = NoEarlier.none
  no_earlier_lem (u ∷ us) free free' l =
      let m : max (T.start u) free ≤ max (T.start u) free' = max-le (le-max_left (T.start u) free') (omega (arith, le-max_right (T.start u) free')) in
      NoEarlier.more refl m (no_earlier_lem us (max (T.start u) free + (T.end u - T.start u) + short u + over_minutes) (max (T.start u) free' + (T.end u - T.start u) + long u + over_minutes) (omega (arith, m, more u)))

  pub longer_later : (S : List Bool) (h : ℕ) → NoEarlier (day_of T S short h) (day_of T S long h)
  unfolding day_of
  longer_later S h = no_earlier_lem (taken_of T S h (order_by_start T)) 0 0 (omega arith)

-- ---- no delays

-- turns as they are planned
planned : Turns → List ℕ → List Stint
planned T [] = []
planned T (u ∷ us) = record { turn = u; begin = T.start u; end = T.end u } ∷ planned T us

-- turns of which each starts when its groomer has driven over from all before it
data Spaced (T : Turns) : List ℕ → Type 0 where
  none : Spaced T []
  more : {u : ℕ} {us : List ℕ} → T.start u < T.end u → All (λ v. T.end u + over_minutes ≤ T.start v) us → Spaced T us → Spaced T (u ∷ us)

-- each turn lasts a minute and is followed by ten, so that no more of them than this end within the shift
spaced_few : (T : Turns) (low : ℕ) {us : List ℕ} → low ≤ shift_minutes + over_minutes → Spaced T us → All (λ v. low ≤ T.start v) us → All (λ v. T.end v ≤ shift_minutes) us → 11 * length us + low ≤ shift_minutes + over_minutes
spaced_few T low l Spaced.none All.none All.none = omega arith
spaced_few T low l (Spaced.more {u} {us} p a r) (All.more q b) (All.more e f) =
    let k = spaced_few T (T.start u + 11) (omega (arith, p, e)) r (later a) f in omega (arith, k, q)
  where
    later : {vs : List ℕ} → All (λ v. T.end u + over_minutes ≤ T.start v) vs → All (λ v. T.start u + 11 ≤ T.start v) vs
    later All.none = All.none
    later (All.more {t = v} {ts = vs} k y) = All.more {t = v} (omega (arith, k, p)) (later y)

all_take : {P : ℕ → Type 0} (i : ℕ) {us : List ℕ} → All P us → All P (take i us)
all_take zero h = All.none
all_take (suc i) All.none = All.none
all_take (suc i) (All.more p h) = All.more p (all_take i h)

rising_take : {f : ℕ → ℕ} (i : ℕ) {us : List ℕ} → Ascending f us → Ascending f (take i us)
rising_take zero h = Ascending.none
rising_take (suc i) Ascending.none = Ascending.none
rising_take (suc i) (Ascending.more a r) = Ascending.more (all_take i a) (rising_take i r)

planned_is : (T : Turns) (free : ℕ) {us : List ℕ} → Spaced T us → All (λ v. free ≤ T.start v) us → stints_from T (λ _. 0) free us ≡ planned T us
unfolding stints_from stint_of planned
planned_is T free Spaced.none a = refl
planned_is T free (Spaced.more {u} {us} l b h) a =
    let q : max (T.start u) free ≡ T.start u = max-eq_left (all_head a) in
    let e : T.start u + (T.end u - T.start u) + 0 ≡ T.end u = omega arith in
    rw (q, e) (ap (λ (ss : List Stint). record { turn = u; begin = T.start u; end = T.end u } ∷ ss) (planned_is T (T.end u + over_minutes) h b))

-- a worked minute is a planned one
unfoldable pub works_of : Doing → ℕ
works_of (works u) = u + 1
works_of drives = 0
works_of stands = 0

none_works : (m u : ℕ) → doing_at [] m ≡ works u → ⊥
unfolding doing_at works_of
none_works m u e = let q : 0 ≡ u + 1 = ap works_of e in omega (arith, q)

planned_only : (T : Turns) {us : List ℕ} → Spaced T us → (u m : ℕ) → doing_at (planned T us) m ≡ works u → (T.start u ≤ m) × (m < T.end u)
unfolding planned works_of
planned_only T Spaced.none u m e = absurd (none_works m u e)
planned_only T (Spaced.more {u = v} {us = vs} l b h) u m e = go (dec_lt m (T.start v)) (dec_lt m (T.end v)) (dec_lt m (T.end v + over_minutes)) (planned_only T h u m)
  where
    s : Stint
    s = record { turn = v; begin = T.start v; end = T.end v }

    go : Dec (m < T.start v) → Dec (m < T.end v) → Dec (m < T.end v + over_minutes) → (doing_at (planned T vs) m ≡ works u → (T.start u ≤ m) × (m < T.end u)) → (T.start u ≤ m) × (m < T.end u)
    go (yes x) y z ih = let q : 0 ≡ u + 1 = ap works_of (sym (doing_before s (planned T vs) m x) ∙ e) in absurd (omega (arith, q))
    go (no x) (yes y) z ih =
        let q : v + 1 ≡ u + 1 = ap works_of (sym (doing_in s (planned T vs) m (omega arith) y) ∙ e) in
        let w : v ≡ u = omega (arith, q) in rw (← w) (omega arith, y)
    go (no x) (no y) (yes z) ih = let q : 0 ≡ u + 1 = ap works_of (sym (doing_over s (planned T vs) m (omega arith) (omega arith) z) ∙ e) in absurd (omega (arith, q))
    go (no x) (no y) (no z) ih = ih (sym (doing_after s (planned T vs) m (omega arith) (omega arith)) ∙ e)

-- a planned minute is worked
pub times_rest : (u v : ℕ) (vs : List ℕ) → (u ≡ v → ⊥) → 1 ≤ times_in eqb u (v ∷ vs) → 1 ≤ times_in eqb u vs
unfolding times_in
times_rest u v vs d o = let e : ◌≡◌ {A = ℕ} (cond (eqb u v) 1 0) 0 = rw (ne_eqb u v d) in omega (arith, o, e)

pub all_has : {P : ℕ → Type 0} {us : List ℕ} → All P us → (u : ℕ) → 1 ≤ times_in eqb u us → P u
unfolding times_in
all_has All.none u l = absurd (omega arith)
all_has {P} (All.more {t = x} {ts = xs} p h) u l = go (ℕ_discrete u x) (all_has h u)
  where
    go : Dec (u ≡ x) → (1 ≤ times_in eqb u xs → P u) → P u
    go (yes e) ih = rw e p
    go (no e) ih = ih (times_rest u x xs e l)

planned_worked : (T : Turns) {us : List ℕ} → Spaced T us → (u m : ℕ) → 1 ≤ times_in eqb u us → T.start u ≤ m → m < T.end u → doing_at (planned T us) m ≡ works u
unfolding planned times_in
planned_worked T Spaced.none u m o a b = absurd (omega arith)
planned_worked T (Spaced.more {u = v} {us = vs} l c h) u m o a b = go (ℕ_discrete u v) (λ k. planned_worked T h u m k a b)
  where
    s : Stint
    s = record { turn = v; begin = T.start v; end = T.end v }

    go : Dec (u ≡ v) → (1 ≤ times_in eqb u vs → doing_at (planned T vs) m ≡ works u) → doing_at (s ∷ planned T vs) m ≡ works u
    go (yes e) ih = doing_in s (planned T vs) m (rw e at a) (rw e at b) ∙ ap works (sym e)
    go (no e) ih =
        let k : 1 ≤ times_in eqb u vs = times_rest u v vs e o in
        let far : T.end v + over_minutes ≤ T.start u = all_has c u k in
        doing_after s (planned T vs) m (omega arith) (omega (arith, far)) ∙ ih k

-- ---- the turns that a groomer takes are spaced where no two chosen turns conflict

module _ (T : Turns) (S : List Bool) (h : ℕ) where
  pub taken_all : {P Q : ℕ → Type 0} → ((v : ℕ) → takes T S h v ≡ true → P v → Q v) → {us : List ℕ} → All P us → All Q (taken_of T S h us)
  unfolding taken_of
  taken_all f All.none = All.none
  taken_all {P} {Q} f (All.more {t = x} {ts = xs} p g) = go (takes T S h x) refl (taken_all f g)
    where
      go : (b : Bool) → takes T S h x ≡ b → All Q (taken_of T S h xs) → All Q (cond b (x ∷ []) [] ++ taken_of T S h xs)
      go true e ih = All.more (f x e p) ih
      go false e ih = ih

  pub taken_has : (us : List ℕ) (u : ℕ) → takes T S h u ≡ true → 1 ≤ times_in eqb u us → 1 ≤ times_in eqb u (taken_of T S h us)
  unfolding taken_of times_in
  taken_has [] u t o = o
  taken_has (v ∷ vs) u t o = go (takes T S h v) refl (ℕ_discrete u v) (taken_has vs u t)
    where
      go : (b : Bool) → takes T S h v ≡ b → Dec (u ≡ v) → (1 ≤ times_in eqb u vs → 1 ≤ times_in eqb u (taken_of T S h vs)) → 1 ≤ times_in eqb u (cond b (v ∷ []) [] ++ taken_of T S h vs)
      go true e (yes q) ih = rw (eq-eqb u v q) (omega arith)
      go true e (no q) ih = let k = ih (times_rest u v vs q o) in omega (arith, k)
      go false e (yes q) ih = absurd (differ (sym (ap (takes T S h) q ∙ e) ∙ t))
        where
          differ : false ≡ true → ⊥
          differ z = let w : ◌≡◌ {A = ℕ} 0 1 = ap {B = ℕ} (λ b. cond b 1 0) z in omega (arith, w)
      go false e (no q) ih = ih (times_rest u v vs q o)

  pub taken_chosen : (u : ℕ) → takes T S h u ≡ true → has S u ≡ true
  unfolding takes
  taken_chosen u e = and_1 (has S u) (eqb (T.groomer u) h) e

  pub taken_groomer : (u : ℕ) → takes T S h u ≡ true → T.groomer u ≡ h
  unfolding takes
  taken_groomer u e = eqb-true (T.groomer u) h (and_2 (has S u) (eqb (T.groomer u) h) e)

  module _ (apart : Independent T S) (lengths : PositiveLengths T) (gap : over_minutes ≤ T.gap) where
    space : (u v : ℕ) → u < T.count → v < T.count → takes T S h u ≡ true → takes T S h v ≡ true → Before T u v → T.end u + over_minutes ≤ T.start v
    space u v l k p q w = go (dec_lt (T.start v) (T.end u + over_minutes))
      where
        go : Dec (T.start v < T.end u + over_minutes) → T.end u + over_minutes ≤ T.start v
        go (yes x) =
            absurd (apart u v l k (λ e. differ e) (taken_chosen u p) (taken_chosen v q)
            (same_groomer (taken_groomer u p ∙ sym (taken_groomer v q)) (T.start v) (record { begun = w.values; not_over = omega arith }) (record { begun = omega arith; not_over = omega (arith, lengths v k) })))
          where
            differ : u ≡ v → ⊥
            differ e = let z : u < v = w.ties (ap T.start e) in omega (arith, z, e)
        go (no x) = omega arith

    both_all : {P Q : ℕ → Type 0} {us : List ℕ} → All P us → All Q us → All (λ v. P v × Q v) us
    both_all All.none All.none = All.none
    both_all (All.more p a) (All.more q b) = All.more (p, q) (both_all a b)

    taken_spaced : {us : List ℕ} → Ascending T.start us → All (λ t. t < T.count) us → Spaced T (taken_of T S h us)
    unfolding taken_of
    taken_spaced Ascending.none i = Spaced.none
    taken_spaced (Ascending.more {t} {ts} a r) (All.more l i) = go (takes T S h t) refl (taken_spaced r i)
      where
        go : (b : Bool) → takes T S h t ≡ b → Spaced T (taken_of T S h ts) → Spaced T (cond b (t ∷ []) [] ++ taken_of T S h ts)
        go true e ih = Spaced.more (lengths t l) (taken_all (λ v q w. space t v l w.1 e q w.0) (both_all a i)) ih
        go false e ih = ih

    from_zero : (us : List ℕ) → All (λ v. 0 ≤ T.start v) us
    from_zero [] = All.none
    from_zero (u ∷ us) = All.more {t = u} (omega arith) (from_zero us)

    -- however many turns are gone through by start, those that a groomer takes fit into the rows of its day
    pub taken_few : ((t : ℕ) → t < T.count → T.end t ≤ shift_minutes) → (i : ℕ) → length (taken_of T S h (take i (order_by_start T))) < day_rows
    taken_few ends i =
        let us = taken_of T S h (take i (order_by_start T)) in
        let inside : All (λ t. t < T.count) (take i (order_by_start T)) = all_take i (order_inside T) in
        let k = spaced_few T 0 (omega arith) (taken_spaced (rising_take i (order_rising T)) inside) (from_zero us) (taken_all (λ t e l. ends t l) inside) in
        omega (arith, k)

    pub on_time : (u : ℕ) → u < T.count → has S u ≡ true → T.groomer u ≡ h → OnTime T (day_of T S (λ _. 0) h) u
    unfolding day_of takes
    on_time u l c g =
        let us = taken_of T S h (order_by_start T) in
        let spaced : Spaced T us = taken_spaced (order_rising T) (order_inside T) in
        let is : stints_from T (λ _. 0) 0 us ≡ planned T us = planned_is T 0 spaced (from_zero us) in
        let t : takes T S h u ≡ true = and_of (has S u) (eqb (T.groomer u) h) c (eq-eqb (T.groomer u) h g) in
        let once : 1 ≤ times_in eqb u us = taken_has (order_by_start T) u t (order_has T u l) in
        record {
          planned = λ m a b. ap (λ (ss : List Stint). doing_at ss m) is ∙ planned_worked T spaced u m once a b;
          only = λ m e. planned_only T spaced u m (sym (ap (λ (ss : List Stint). doing_at ss m) is) ∙ e);
        }
