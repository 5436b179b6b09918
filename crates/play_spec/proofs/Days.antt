-- A groomer's day is the one in words and the only one, and what is done in each minute is what the words say. Assumes nothing.
use mathlib.Core.Path.{◌≡◌, refl, sym, ◌∙◌, ap}
use mathlib.Core.Logic.{◌⊎◌, inl, inr}
use mathlib.Core.Bool.{Bool, true, false, cond}
use mathlib.Core.List.{List, [], ◌∷◌, ◌++◌, map}
use Prim.Native.Nat.{ℕ, zero, suc, ◌+◌, ◌-◌, ◌≤◌, ◌<◌, max}
use native.Mathlib.Omega.{arith}
use native.Mathlib.Decide.{dec_lt, ℕ_discrete}
use native.Mathlib.Nat.{max-eq_left}
use lib.Dec.{eqb}
use lib.ListN.{length, get_or}
use borrow.Author.Tests.{eq-eqb}
use Rattle.lists.proofs.Bools.{and_of}
use Rattle.model.specs.Turns.{Turns}
use Rattle.model.specs.Choice.{has}
use Rattle.lists.specs.Lists.{All}
use Rattle.lists.specs.Sorting.{times_in}
use Rattle.lists.specs.Order.{Ascending, StandsBefore}
use Rattle.lists.proofs.Sums.{all_at}
use Rattle.lists.proofs.Order.{ascending_of}
use Rattle.instance_spec.specs.ByStart.{order_by_start}
use Rattle.instance_spec.proofs.ByStart.{order_inside, order_rising, order_has}
use Rattle.play_spec.specs.declared.Stint.{Stint}
use Rattle.play_spec.specs.Day.{Doing, over_minutes, stint_of, stints_from, takes, taken_of, day_of, works, drives, stands, doing_at, Laid, stint_at, Takes, DayIs, InStint, OverFrom, DoingIs}
use Rattle.play_spec.proofs.Stints.{doing_before, doing_in, doing_over, doing_after}
use Rattle.play_spec.proofs.Delayed.{works_of, times_rest, all_has, taken_all, taken_has, taken_chosen, taken_groomer}

-- ---- lists by their places

rising_at : {f : ℕ → ℕ} {us : List ℕ} → Ascending f us → (i j : ℕ) → i < j → j < length us → StandsBefore f (get_or us i 0) (get_or us j 0)
rising_at Ascending.none i j l m = absurd (omega arith)
rising_at (Ascending.more b r) i zero l m = absurd (omega arith)
rising_at (Ascending.more b r) zero (suc j) l m = all_at b j (omega arith)
rising_at (Ascending.more b r) (suc i) (suc j) l m = rising_at r i j (omega arith) (omega arith)

has_at : (us : List ℕ) (u : ℕ) → 1 ≤ times_in eqb u us → (i : ℕ) × (i < length us) × (get_or us i 0 ≡ u)
unfolding times_in
has_at [] u o = absurd (omega arith)
has_at (v ∷ vs) u o = go (ℕ_discrete u v) (has_at vs u)
  where
    go : Dec (u ≡ v) → (1 ≤ times_in eqb u vs → (i : ℕ) × (i < length vs) × (get_or vs i 0 ≡ u)) → (i : ℕ) × (i < length (v ∷ vs)) × (get_or (v ∷ vs) i 0 ≡ u)
    go (yes e) ih = (0, omega arith, sym e)
    go (no e) ih = let r = ih (times_rest u v vs e o) in (suc r.0, omega (arith, r.1), r.2)

-- ---- the times of a day's stints, where the groomer is free from some minute on

module _ (T : Turns) (delay : ℕ → ℕ) where
  record Timed (free : ℕ) (day : List Stint) : Type 0 where
    first : 0 < length day → (stint_at day 0).begin ≡ max (T.start (stint_at day 0).turn) free
    others : (i : ℕ) → suc i < length day → (stint_at day (suc i)).begin ≡ max (T.start (stint_at day (suc i)).turn) ((stint_at day i).end + over_minutes)
    lasts : (i : ℕ) → i < length day → (stint_at day i).end ≡ (stint_at day i).begin + (T.end (stint_at day i).turn - T.start (stint_at day i).turn) + delay (stint_at day i).turn

  stints_length : (free : ℕ) (us : List ℕ) → length (stints_from T delay free us) ≡ length us
  unfolding stints_from
  stints_length free [] = refl
  stints_length free (u ∷ us) = ap suc (stints_length ((stint_of T delay free u).end + over_minutes) us)

  stints_turn : (free : ℕ) (us : List ℕ) (i : ℕ) → (stint_at (stints_from T delay free us) i).turn ≡ get_or us i 0
  unfolding stints_from stint_of
  stints_turn free [] i = refl
  stints_turn free (u ∷ us) zero = refl
  stints_turn free (u ∷ us) (suc i) = stints_turn ((stint_of T delay free u).end + over_minutes) us i

  timed_more : (free : ℕ) (s : Stint) (ss : List Stint) → s.begin ≡ max (T.start s.turn) free → s.end ≡ s.begin + (T.end s.turn - T.start s.turn) + delay s.turn → Timed (s.end + over_minutes) ss → Timed free (s ∷ ss)
  timed_more free s ss b e h = record { first = λ l. b; others = others; lasts = lasts }
    where
      others : (i : ℕ) → suc i < length (s ∷ ss) → (stint_at (s ∷ ss) (suc i)).begin ≡ max (T.start (stint_at (s ∷ ss) (suc i)).turn) ((stint_at (s ∷ ss) i).end + over_minutes)
      others zero l = h.first (omega arith)
      others (suc i) l = h.others i (omega arith)

      lasts : (i : ℕ) → i < length (s ∷ ss) → (stint_at (s ∷ ss) i).end ≡ (stint_at (s ∷ ss) i).begin + (T.end (stint_at (s ∷ ss) i).turn - T.start (stint_at (s ∷ ss) i).turn) + delay (stint_at (s ∷ ss) i).turn
      lasts zero l = e
      lasts (suc i) l = h.lasts i (omega arith)

  stints_timed : (free : ℕ) (us : List ℕ) → Timed free (stints_from T delay free us)
  unfolding stints_from stint_of
  stints_timed free [] = record { first = λ l. absurd (omega arith); others = λ i l. absurd (omega arith); lasts = λ i l. absurd (omega arith) }
  stints_timed free (u ∷ us) = timed_more free (stint_of T delay free u) (stints_from T delay ((stint_of T delay free u).end + over_minutes) us) refl refl (stints_timed ((stint_of T delay free u).end + over_minutes) us)

  -- such stints are those of their turns
  timed_only : (free : ℕ) (day : List Stint) → Timed free day → day ≡ stints_from T delay free (map (λ s. s.turn) day)
  unfolding stints_from stint_of
  timed_only free [] h = refl
  timed_only free (s ∷ ss) h =
      let b : s.begin ≡ max (T.start s.turn) free = h.first (omega arith) in
      let e : s.end ≡ max (T.start s.turn) free + (T.end s.turn - T.start s.turn) + delay s.turn = h.lasts 0 (omega arith) ∙ ap (λ (m : ℕ). m + (T.end s.turn - T.start s.turn) + delay s.turn) b in
      let rest : Timed (s.end + over_minutes) ss = record { first = λ l. h.others 0 (omega arith); others = λ i l. h.others (suc i) (omega arith); lasts = λ i l. h.lasts (suc i) (omega arith) } in
      let r = timed_only (s.end + over_minutes) ss rest ∙ ap (λ (m : ℕ). stints_from T delay (m + over_minutes) (map (λ k. k.turn) ss)) e in
      λ i. record { turn = s.turn; begin = b i; end = e i } ∷ r i

-- ---- two lists of the same turns, each by start, are one

before_not : (f : ℕ → ℕ) (x y : ℕ) → StandsBefore f x y → x ≡ y → ⊥
before_not f x y b e = let l : x < y = b.ties (ap f e) in omega (arith, l, e)

module _ (f : ℕ → ℕ) where
  head_same : (t u : ℕ) (ts us : List ℕ) → All (StandsBefore f t) ts → All (StandsBefore f u) us → 1 ≤ times_in eqb t (u ∷ us) → 1 ≤ times_in eqb u (t ∷ ts) → t ≡ u
  head_same t u ts us a b p q = go (ℕ_discrete t u)
    where
      go : Dec (t ≡ u) → t ≡ u
      go (yes e) = e
      go (no n) =
          let x = all_has b t (times_rest t u us n p) in
          let y = all_has a u (times_rest u t ts (λ e. n (sym e)) q) in
          let l : u < t = x.ties (omega (arith, x.values, y.values)) in
          let k : t < u = y.ties (omega (arith, x.values, y.values)) in
          absurd (omega (arith, l, k))

  times_more : (v t : ℕ) (ts : List ℕ) → 1 ≤ times_in eqb v ts → 1 ≤ times_in eqb v (t ∷ ts)
  unfolding times_in
  times_more v t ts o = omega (arith, o)

  times_head : (t : ℕ) (ts : List ℕ) → 1 ≤ times_in eqb t (t ∷ ts)
  unfolding times_in
  times_head t ts = rw (eq-eqb t t refl) (omega arith)

  times_none : (v : ℕ) → 1 ≤ times_in eqb v [] → ⊥
  unfolding times_in
  times_none v o = omega arith

  rising_same : {ts us : List ℕ} → Ascending f ts → Ascending f us → ((v : ℕ) → 1 ≤ times_in eqb v ts → 1 ≤ times_in eqb v us) → ((v : ℕ) → 1 ≤ times_in eqb v us → 1 ≤ times_in eqb v ts) → ts ≡ us
  rising_same Ascending.none Ascending.none p q = refl
  rising_same Ascending.none (Ascending.more {t} {ts} b s) p q = absurd (times_none t (q t (times_head t ts)))
  rising_same (Ascending.more {t} {ts} a r) Ascending.none p q = absurd (times_none t (p t (times_head t ts)))
  rising_same (Ascending.more {t} {ts} a r) (Ascending.more {t = u} {ts = us} b s) p q =
      let e : t ≡ u = head_same t u ts us a b (p t (times_head t ts)) (q u (times_head u us)) in
      let p' : (v : ℕ) → 1 ≤ times_in eqb v ts → 1 ≤ times_in eqb v us = λ v o. times_rest v u us (λ x. before_not f t v (all_has a v o) (e ∙ sym x)) (p v (times_more v t ts o)) in
      let q' : (v : ℕ) → 1 ≤ times_in eqb v us → 1 ≤ times_in eqb v ts = λ v o. times_rest v t ts (λ x. before_not f u v (all_has b v o) (sym e ∙ sym x)) (q v (times_more v u us o)) in
      let w = rising_same r s p' q' in λ i. e i ∷ w i

-- ---- the day

at_has : (us : List ℕ) (i : ℕ) → i < length us → 1 ≤ times_in eqb (get_or us i 0) us
unfolding times_in
at_has [] i l = absurd (omega arith)
at_has (u ∷ us) zero l = rw (eq-eqb u u refl) (omega arith)
at_has (u ∷ us) (suc i) l = omega (arith, at_has us i (omega arith))

turns_length : (day : List Stint) → length (map (λ s. s.turn) day) ≡ length day
turns_length [] = refl
turns_length (s ∷ ss) = ap suc (turns_length ss)

turns_at : (day : List Stint) (i : ℕ) → get_or (map (λ s. s.turn) day) i 0 ≡ (stint_at day i).turn
turns_at [] i = refl
turns_at (s ∷ ss) zero = refl
turns_at (s ∷ ss) (suc i) = turns_at ss i

module _ (T : Turns) (S : List Bool) (h : ℕ) where
  taken_rising : {us : List ℕ} → Ascending T.start us → Ascending T.start (taken_of T S h us)
  unfolding taken_of
  taken_rising Ascending.none = Ascending.none
  taken_rising (Ascending.more {t} {ts} a r) = go (takes T S h t) (taken_rising r)
    where
      go : (b : Bool) → Ascending T.start (taken_of T S h ts) → Ascending T.start (cond b (t ∷ []) [] ++ taken_of T S h ts)
      go true ih = Ascending.more (taken_all T S h (λ v e p. p) a) ih
      go false ih = ih

  abbrev taken : List ℕ
  taken = taken_of T S h (order_by_start T)

  taken_takes : All (Takes T S h) taken
  taken_takes = taken_all T S h (λ u e l. record { inside = l; chosen = taken_chosen T S h u e; groomer_is = taken_groomer T S h u e }) (order_inside T)

  takes_taken : (u : ℕ) → Takes T S h u → 1 ≤ times_in eqb u taken
  unfolding takes
  takes_taken u w = taken_has T S h (order_by_start T) u (and_of (has S u) (eqb (T.groomer u) h) w.chosen (eq-eqb (T.groomer u) h w.groomer_is)) (order_has T u w.inside)

  module _ (delay : ℕ → ℕ) where
    pub day_is : DayIs T S delay h (day_of T S delay h)
    unfolding day_of
    day_is =
        let many = stints_length T delay 0 taken in
        let turn = stints_turn T delay 0 taken in
        let times = stints_timed T delay 0 taken in
        record {
          its_own = λ i l. rw (turn i) (all_at taken_takes i (omega (arith, many)));
          all_taken = λ u w. let r = has_at taken u (takes_taken u w) in (r.0, omega (arith, r.1, many), turn r.0 ∙ r.2);
          rising = λ i j l m. rw (turn i, turn j) (rising_at (taken_rising (order_rising T)) i j l (omega (arith, many)));
          first = λ l. times.first l ∙ max-eq_left (omega arith);
          others = times.others;
          lasts = times.lasts;
        }

    -- no other list of stints is such a day
    pub day_only : (day : List Stint) → DayIs T S delay h day → day ≡ day_of T S delay h
    unfolding day_of
    day_only day w =
        let us = map (λ s. s.turn) day in
        let many : length us ≡ length day = turns_length day in
        let rising : Ascending T.start us = ascending_of T.start us (λ i j l m. rw (turns_at day i, turns_at day j) (w.rising i j l (omega (arith, many)))) in
        let to : (v : ℕ) → 1 ≤ times_in eqb v us → 1 ≤ times_in eqb v taken = λ v o. let r = has_at us v o in takes_taken v (rw (sym (turns_at day r.0) ∙ r.2) at (w.its_own r.0 (omega (arith, r.1, many)))) in
        let from : (v : ℕ) → 1 ≤ times_in eqb v taken → 1 ≤ times_in eqb v us = λ v o. let r = w.all_taken v (all_has taken_takes v o) in rw (turns_at day r.0 ∙ r.2) at (at_has us r.0 (omega (arith, r.1, many))) in
        let same : us ≡ taken = rising_same T.start rising (taken_rising (order_rising T)) to from in
        timed_only T delay 0 day (record { first = λ l. w.first l ∙ sym (max-eq_left (omega arith)); others = w.others; lasts = w.lasts }) ∙ ap (stints_from T delay 0) same

-- ---- what is done in a minute

-- the stint at a place begins no earlier than the groomer is free, and does not end before it begins
laid_at : {free : ℕ} {ss : List Stint} → Laid free ss → (i : ℕ) → i < length ss → (free ≤ (stint_at ss i).begin) × ((stint_at ss i).begin ≤ (stint_at ss i).end)
laid_at Laid.none i l = absurd (omega arith)
laid_at (Laid.more a b h) zero l = (a, b)
laid_at (Laid.more a b h) (suc i) l = let r = laid_at h i (omega arith) in (omega (arith, r.0), r.1)

works_at : {free : ℕ} {ss : List Stint} → Laid free ss → (m i : ℕ) → i < length ss → InStint (stint_at ss i) m → doing_at ss m ≡ works (stint_at ss i).turn
works_at Laid.none m i l w = absurd (omega arith)
works_at (Laid.more {s = s} {ss = ss} a b h) m zero l w = doing_in s ss m w.0 w.1
works_at (Laid.more {s = s} {ss = ss} a b h) m (suc i) l w = doing_after s ss m b (omega (arith, (laid_at h i (omega arith)).0, w.0)) ∙ works_at h m i (omega arith) w

drives_at : {free : ℕ} {ss : List Stint} → Laid free ss → (m i : ℕ) → i < length ss → OverFrom (stint_at ss i) m → doing_at ss m ≡ drives
drives_at Laid.none m i l w = absurd (omega arith)
drives_at (Laid.more {s = s} {ss = ss} a b h) m zero l w = doing_over s ss m b w.0 w.1
drives_at (Laid.more {s = s} {ss = ss} a b h) m (suc i) l w = let r = laid_at h i (omega arith) in doing_after s ss m b (omega (arith, r.0, r.1, w.0)) ∙ drives_at h m i (omega arith) w

abbrev Neither : List Stint → ℕ → Type 0
Neither ss m = (i : ℕ) → i < length ss → (InStint (stint_at ss i) m → ⊥) × (OverFrom (stint_at ss i) m → ⊥)

stands_at : {free : ℕ} {ss : List Stint} → Laid free ss → (m : ℕ) → Neither ss m → doing_at ss m ≡ stands
unfolding doing_at
stands_at Laid.none m n = refl
stands_at (Laid.more {s = s} {ss = ss} a b h) m n = go (dec_lt m s.begin) (dec_lt m s.end) (dec_lt m (s.end + over_minutes)) (stands_at h m (λ i l. n (suc i) (omega arith)))
  where
    go : Dec (m < s.begin) → Dec (m < s.end) → Dec (m < s.end + over_minutes) → doing_at ss m ≡ stands → doing_at (s ∷ ss) m ≡ stands
    go (yes x) y z ih = doing_before s ss m x
    go (no x) (yes y) z ih = absurd ((n 0 (omega arith)).0 (omega arith, y))
    go (no x) (no y) (yes z) ih = absurd ((n 0 (omega arith)).1 (omega arith, z))
    go (no x) (no y) (no z) ih = doing_after s ss m b (omega arith) ∙ ih

-- a minute is in a stint, after one, or neither
abbrev Place : List Stint → ℕ → Type 0
Place ss m = ((i : ℕ) × (i < length ss) × InStint (stint_at ss i) m) ⊎ ((i : ℕ) × (i < length ss) × OverFrom (stint_at ss i) m) ⊎ Neither ss m

place_of : {free : ℕ} {ss : List Stint} → Laid free ss → (m : ℕ) → Place ss m
place_of Laid.none m = inr (inr (λ i l. absurd (omega arith)))
place_of (Laid.more {s = s} {ss = ss} a b h) m = go (dec_lt m s.begin) (dec_lt m s.end) (dec_lt m (s.end + over_minutes)) (place_of h m)
  where
    more : (InStint s m → ⊥) → (OverFrom s m → ⊥) → Neither ss m → Neither (s ∷ ss) m
    more x y n zero l = (x, y)
    more x y n (suc i) l = n i (omega arith)

    go : Dec (m < s.begin) → Dec (m < s.end) → Dec (m < s.end + over_minutes) → Place ss m → Place (s ∷ ss) m
    go x y z (inl (i, l, w)) = inl (suc i, omega arith, w)
    go x y z (inr (inl (i, l, w))) = inr (inl (suc i, omega arith, w))
    go (yes x) y z (inr (inr n)) = inr (inr (more (λ w. omega (arith, w.0)) (λ w. omega (arith, w.0)) n))
    go (no x) (yes y) z (inr (inr n)) = inl (0, omega arith, (omega arith, y))
    go (no x) (no y) (yes z) (inr (inr n)) = inr (inl (0, omega arith, (omega arith, z)))
    go (no x) (no y) (no z) (inr (inr n)) = inr (inr (more (λ w. omega (arith, w.1)) (λ w. omega (arith, w.1)) n))

same_turn : {u v : ℕ} → works u ≡ works v → u ≡ v
unfolding works_of
same_turn e = omega (arith, ap works_of e)

works_drives : {u : ℕ} → works u ≡ drives → ⊥
unfolding works_of
works_drives e = omega (arith, ap works_of e)

works_stands : {u : ℕ} → works u ≡ stands → ⊥
unfolding works_of
works_stands e = omega (arith, ap works_of e)

drives_stands : drives ≡ stands → ⊥
drives_stands e = let z : ◌≡◌ {A = ℕ} 0 1 = cc in omega arith

pub doing_is : {free : ℕ} {day : List Stint} → Laid free day → (m : ℕ) → DoingIs day m (doing_at day m)
doing_is {day = day} h m = go (place_of h m)
  where
    go : Place day m → DoingIs day m (doing_at day m)
    go (inl (i, l, w)) =
        let d = works_at h m i l w in
        record {
          works_iff = λ u. (λ e. (i, l, same_turn (sym d ∙ e), w), λ (j, k, t, v). works_at h m j k v ∙ ap works t);
          drives_iff = (λ e. absurd (works_drives (sym d ∙ e)), λ (j, k, v). drives_at h m j k v);
          stands_iff = (λ e. absurd (works_stands (sym d ∙ e)), stands_at h m);
        }
    go (inr (inl (i, l, w))) =
        let d = drives_at h m i l w in
        record {
          works_iff = λ u. (λ e. absurd (works_drives (sym e ∙ d)), λ (j, k, t, v). works_at h m j k v ∙ ap works t);
          drives_iff = (λ e. (i, l, w), λ (j, k, v). drives_at h m j k v);
          stands_iff = (λ e. absurd (drives_stands (sym d ∙ e)), stands_at h m);
        }
    go (inr (inr n)) =
        let d = stands_at h m n in
        record {
          works_iff = λ u. (λ e. absurd (works_stands (sym e ∙ d)), λ (j, k, t, v). works_at h m j k v ∙ ap works t);
          drives_iff = (λ e. absurd (drives_stands (sym e ∙ d)), λ (j, k, v). drives_at h m j k v);
          stands_iff = (λ e. n, stands_at h m);
        }

-- and in no minute of such a day is anything else done
pub doing_only : {free : ℕ} {day : List Stint} → Laid free day → (m : ℕ) (d : Doing) → DoingIs day m d → d ≡ doing_at day m
doing_only h m (works u) w = let (i, l, t, k) = (w.works_iff u).0 refl in sym (works_at h m i l k ∙ ap works t)
doing_only h m drives w = let (i, l, k) = w.drives_iff.0 refl in sym (drives_at h m i l k)
doing_only h m stands w = sym (stands_at h m (w.stands_iff.0 refl))
