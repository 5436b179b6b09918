-- Of all sets that earn the best worth, the table's leaves out the latest turn in which they differ. There is one such set; where every turn earns something it is the planner's choice. Assumes nothing.
use mathlib.Core.Path.{◌≡◌, refl, sym, ap, ◌∙◌, subst}
use mathlib.Core.Logic.{◌≢◌, ◌⊎◌, inl, inr}
use mathlib.Core.Bool.{Bool, true, false, cond}
use mathlib.Core.List.{List, ◌∷◌, ◌++◌}
use Prim.Native.Nat.{ℕ, ◌+◌, ◌≤◌, ◌<◌}
use native.Mathlib.Omega.{arith}
use native.Mathlib.Decide.{dec_lt}
use lib.Dec.{eqb}
use lib.ListN.{length, drop}
use lib.Seq.{ext_get_or}
use borrow.Author.Tests.{eqb-true, eq-eqb}
use Rattle.lists.specs.Lists.{sum_over, All, more}
use Rattle.lists.proofs.Bools.{not_both, fails, or_1, or_2}
use Rattle.lists.proofs.Sums.{all_map, sum_zero, sum_point}
use Rattle.model.specs.Turns.{Turns, PositiveLengths, NoDrivers, conflict}
use Rattle.model.specs.Choice.{has, chosen, members, choice}
use Rattle.model.specs.Rules.{Independent}
use Rattle.model.specs.Feasible.{OneTurnASlope}
use Rattle.model.proofs.Bound.{apart_set}
use Rattle.model.proofs.Members.{chosen_members, members_are, members_feasible}
use Rattle.model.proofs.Promised.{planned_length, choice_apart}
use Rattle.model.proofs.Readings.{apart_reads}
use Rattle.best_spec.specs.Table.{turn_order, Best, blocked, best_over, best_worth, adding, best_choice, is_among, Later, ends_later, higher, BestSet, LeavesOutLatest}
use Rattle.best_spec.proofs.Members.{all_drop, all_parts, sum_both, among_all, all_among, among_cons, some_or_none, set_choice, set_from, set_earns}
use Rattle.best_spec.proofs.Ordering.{Leads, by_groomer_lem, by_end, by_number, leads_one, Before, Ordered, empty, first, ordered_both, order_ordered, order_range, order_sum}
use Rattle.best_spec.proofs.Tables.{best_ind, best_before, best_every, apart_among, Listed, listed_before, taking, taking_with, taking_without, taking_best}
use Rattle.best_spec.proofs.Parts.{Parts, parts, three_tables, own_in}
use Rattle.best_spec.proofs.Tight.{has_within, planned_leaves}
use Rattle.best_spec.proofs.Optimal.{best_turns, choice_among, among_choice, best_length, best_set, best_tally, best_planned}

-- of one groomer's turns the one that stands first is the later
before_later : (T : Turns) (y x : ℕ) → Before T y x → T.groomer x ≡ T.groomer y → Later T y x
before_later T y x b g = go b.leads
  where
    go : Leads T y x → Later T y x
    go (by_groomer_lem h) = absurd (omega arith)
    go (by_end e h) = ends_later g h
    go (by_number e f h) = higher g (sym f) (lower h)
      where
        lower : x ≤ y → x < y
        lower k = elim (dec_lt x y) [ yes l ↦ l | no l ↦ absurd (b.apart (omega arith)) ]

module _ (T : Turns) (lengths : PositiveLengths T) (free : NoDrivers T) (single : OneTurnASlope T) {R : List ℕ} (best : BestSet T R) where
  -- the set as a choice
  abbrev S : List Bool
  S = set_choice T.count R

  independent : (x y : ℕ) → x < T.count → y < T.count → x ≢ y → has S x ≡ true → has S y ≡ true → conflict T x y ≡ false
  independent x y hx hy d p q = apart_among T (apart_set T lengths best.feasible) x y (set_from T.count R x p) (set_from T.count R y q) d

  -- what it takes of a list
  abbrev worth_taken : List ℕ → ℕ
  worth_taken ts = taking T lengths free single (has S) independent ts

  -- it has a turn of a list that is later than x and not of an entry's turns
  abbrev Other : List ℕ → List ℕ → ℕ → Type 0
  Other ts us x = (y : ℕ) × (is_among ts y ≡ true) × (has S y ≡ true) × (is_among us y ≡ false) × Later T y x

  -- along the table of one groomer's turns: where it takes as much as an entry earns and leaves out a turn of the entry, it has another
  abbrev Leaves : ℕ → List ℕ → Best → Type 0
  Leaves g ts b = Listed T lengths free single ts → All (λ t. T.groomer t ≡ g) ts → worth_taken ts ≡ b.worth → (x : ℕ) → is_among b.turns x ≡ true → has S x ≡ false → Other ts b.turns x

  among_first : (t : ℕ) (us : List ℕ) → is_among (t ∷ us) t ≡ true
  unfolding is_among
  among_first t us = or_1 (eqb t t) (is_among us t) (eq-eqb t t refl)

  among_rest : (t y : ℕ) (us : List ℕ) → is_among us y ≡ true → is_among (t ∷ us) y ≡ true
  unfolding is_among
  among_rest t y us e = or_2 (eqb y t) (is_among us y) e

  module _ (g : ℕ) where
    leaves_without : (t : ℕ) (us : List ℕ) → T.worth t + (best_before T t us).worth ≤ (best_over T us).worth → Leaves g us (best_over T us) → Leaves g (drop (blocked T t us) us) (best_before T t us) → Leaves g (t ∷ us) (best_over T us)
    leaves_without t us l p q (first b o, more m ms) (more e es) w x i f = go (has S t) refl
      where
        go : (c : Bool) → has S t ≡ c → Other (t ∷ us) (best_over T us).turns x
        go true h =
            let k = among_all x (best_every T us b) i in
            (t, among_first t us, h, fails (is_among (best_over T us).turns t) (λ j. (among_all t (best_every T us b) j).apart refl), before_later T t x k (among_all x (best_every T us es) i ∙ sym e))
        go false h =
            let (y, j, c, n, r) = p (o, ms) es (sym (taking_without T lengths free single (has S) independent t us h) ∙ w) x i f in
            (y, among_rest t y us j, c, n, r)

    leaves_with : (t : ℕ) (us : List ℕ) → (best_over T us).worth < T.worth t + (best_before T t us).worth → Leaves g us (best_over T us) → Leaves g (drop (blocked T t us) us) (best_before T t us) → Leaves g (t ∷ us) (adding T t (best_before T t us))
    leaves_with t us l p q (first b o, more m ms) (more e es) w x i f = go (has S t) refl
      where
        k : ℕ
        k = blocked T t us

        go : (c : Bool) → has S t ≡ c → Other (t ∷ us) (t ∷ (best_before T t us).turns) x
        go false h =
            absurd (omega (arith, w, taking_without T lengths free single (has S) independent t us h, taking_best T lengths free single (has S) independent us (o, ms)))
        go true h = split (among_cons x t (best_before T t us).turns i)
          where
            split : (x ≡ t) ⊎ (is_among (best_before T t us).turns x ≡ true) → Other (t ∷ us) (t ∷ (best_before T t us).turns) x
            split (inl a) = absurd (not_both h (rw a at f))
            split (inr a) =
                let (y, j, c, n, r) = q (listed_before T lengths free single t (first b o, more m ms)) (all_drop k es) (omega (arith, w, taking_with T lengths free single (has S) independent t (first b o, more m ms) h)) x a f in
                (y, among_rest t y us (among_all y (all_drop k (all_among us)) j), c, fails (is_among (t ∷ (best_before T t us).turns) y) (λ z. new y (among_all y (all_drop k b) j) n (among_cons y t (best_before T t us).turns z)), r)
              where
                new : (y : ℕ) → Before T t y → is_among (best_before T t us).turns y ≡ false → (y ≡ t) ⊎ (is_among (best_before T t us).turns y ≡ true) → ⊥
                new y d n (inl z) = d.apart (sym z)
                new y d n (inr z) = not_both z n

    own_leaves : (ts : List ℕ) → Leaves g ts (best_over T ts)
    unfolding is_among
    own_leaves = best_ind T (Leaves g) (λ h o e x i. absurd (not_both i refl)) leaves_without leaves_with

  -- it takes the best worth of all turns
  takes_best : worth_taken (turn_order T) ≡ best_worth T
  unfolding chosen best_worth
  takes_best =
      omega (
        arith,
        best.earns,
        set_earns T.count R T.worth best.feasible.numbers best.feasible.once,
        order_sum T (λ t. cond (has S t) (T.worth t) 0),
        taking_best T lengths free single (has S) independent (turn_order T) (order_ordered T, order_range T),
      )

  -- hence of each groomer's own turns what their table earns
  takes_own : {g : ℕ} (p : Parts T g (turn_order T)) → Listed T lengths free single p.own × (worth_taken p.own ≡ (best_over T p.own).worth)
  unfolding best_worth
  takes_own p =
      let f : ℕ → ℕ = λ t. cond (has S t) (T.worth t) 0 in
      let (lower, rest) = ordered_both T p.lower (subst (Ordered T) p.split (order_ordered T)) in
      let (own, upper) = ordered_both T p.own rest in
      let (lows, rests) = all_parts p.lower (subst (All (λ t. t < T.count)) p.split (order_range T)) in
      let (owns, ups) = all_parts p.own rests in (
        (own, owns),
        omega (
          arith,
          takes_best,
          ap (λ (b : Best). b.worth) (three_tables T p),
          ap (sum_over f) p.split,
          sum_both f p.lower (p.own ++ p.upper),
          sum_both f p.own p.upper,
          taking_best T lengths free single (has S) independent p.lower (lower, lows),
          taking_best T lengths free single (has S) independent p.own (own, owns),
          taking_best T lengths free single (has S) independent p.upper (upper, ups),
        ),
      )

  leaves_out : (x : ℕ) → has (best_choice T) x ≡ true → is_among R x ≡ false → (y : ℕ) × (is_among R y ≡ true) × (has (best_choice T) y ≡ false) × Later T y x
  leaves_out x e n =
      let p = parts T (T.groomer x) (order_ordered T) in
      let (o, w) = takes_own p in
      let (y, j, c, out, r) = own_leaves (T.groomer x) p.own o p.are_own w x (sym (own_in T p x refl) ∙ choice_among T x e) (fails (has S x) (λ h. not_both (set_from T.count R x h) n)) in
      (y, set_from T.count R y c, fails (has (best_choice T) y) (λ h. not_both (sym (own_in T p y (among_all y p.are_own j)) ∙ choice_among T y h) out), r)

-- the table's set leaves out the latest, even where turns earn nothing
pub best_leaves_out : (T : Turns) → PositiveLengths T → NoDrivers T → OneTurnASlope T → LeavesOutLatest T (best_choice T)
best_leaves_out T lengths free single R best = leaves_out T lengths free single best

-- ---- there is only one such set

module _ (T : Turns) where
  later_leads : (y x : ℕ) → Later T y x → Leads T y x
  later_leads y x (ends_later g h) = by_end (sym g) h
  later_leads y x (higher g e h) = by_number (sym g) (sym e) (omega arith)

  not_later : (x : ℕ) → Later T x x → ⊥
  not_later x (ends_later g h) = omega arith
  not_later x (higher g e h) = omega arith

  -- every turn stands in the order
  order_among : (y : ℕ) → y < T.count → is_among (turn_order T) y ≡ true
  order_among y l = elim (some_or_none (λ t. eqb t y) (turn_order T)) [ inl (t, m, e) ↦ subst (λ z. is_among (turn_order T) z ≡ true) (eqb-true t y e) m | inr a ↦ absurd (none_counted a) ]
    where
      f : ℕ → ℕ
      f t = cond (eqb t y) 1 0

      once : f y ≡ 1
      once = rw (eq-eqb y y refl)

      none_counted : All (λ t. eqb t y ≡ false) (turn_order T) → ⊥
      none_counted a = omega (arith, order_sum T f, sum_point f T.count y l, sum_zero f (all_map (λ t e. rw e) a), once)

  -- wherever U leaves out a turn of S, it has a later one that S leaves out
  abbrev pub LaterIn : List Bool → List Bool → Type 0
  LaterIn S U = (x : ℕ) → has S x ≡ true → has U x ≡ false → (y : ℕ) × (has U y ≡ true) × (has S y ≡ false) × Later T y x

  module _ (S U : List Bool) (n : length S ≡ T.count) (m : length U ≡ T.count) (p : LaterIn S U) (q : LaterIn U S) where
    -- one has x, the other has not
    abbrev Differ : ℕ → Type 0
    Differ x = ((has S x ≡ true) × (has U x ≡ false)) ⊎ ((has U x ≡ true) × (has S x ≡ false))

    differ_later : (x : ℕ) → Differ x → (y : ℕ) × Differ y × Later T y x
    differ_later x (inl (e, f)) = let (y, a, b, l) = p x e f in (y, inr (a, b), l)
    differ_later x (inr (e, f)) = let (y, a, b, l) = q x e f in (y, inl (a, b), l)

    -- the first of the order in which they differ would have a later one
    none_differ : {ts : List ℕ} → Ordered T ts → ((y : ℕ) → Differ y → is_among ts y ≡ true) → (x : ℕ) → Differ x → ⊥
    unfolding is_among
    none_differ empty h x d = not_both (h x d) refl
    none_differ (first {t = t} {ts = us} b o) h x d = none_differ o (λ y e. elim (among_cons y t us (h y e)) [ inl a ↦ absurd (top (subst Differ a e)) | inr a ↦ a ]) x d
      where
        top : Differ t → ⊥
        top e = let (y, f, l) = differ_later t e in stands y l (among_cons y t us (h y f))
          where
            stands : (y : ℕ) → Later T y t → (y ≡ t) ⊎ (is_among us y ≡ true) → ⊥
            stands y l (inl a) = not_later t (subst (λ z. Later T z t) a l)
            stands y l (inr a) = let c = among_all y b a in c.apart (leads_one T t y c.leads (later_leads y t l))

    inside : (y : ℕ) → Differ y → is_among (turn_order T) y ≡ true
    inside y (inl (e, f)) = order_among y (omega (arith, has_within S y e, n))
    inside y (inr (e, f)) = order_among y (omega (arith, has_within U y e, m))

    pub latest_only : S ≡ U
    latest_only = ext_get_or false S U (n ∙ sym m) (λ x l. go x (has S x) refl (has U x) refl)
      where
        go : (x : ℕ) (b : Bool) → has S x ≡ b → (c : Bool) → has U x ≡ c → has S x ≡ has U x
        go x true e true f = e ∙ sym f
        go x false e false f = e ∙ sym f
        go x true e false f = absurd (none_differ (order_ordered T) inside x (inl (e, f)))
        go x false e true f = absurd (none_differ (order_ordered T) inside x (inr (f, e)))

-- ---- so it is the planner's choice where every turn earns something

module _ (T : Turns) (lengths : PositiveLengths T) (free : NoDrivers T) (single : OneTurnASlope T) where
  -- a choice without a conflict that earns the best worth, beside the table's
  pub best_later : (S : List Bool) → length S ≡ T.count → Independent T S → chosen T.count S T.worth ≡ best_worth T → LaterIn T (best_choice T) S
  best_later S n apart earns x e f =
      let R = members T.count S in
      let (y, a, b, l) = best_leaves_out T lengths free single R (record { feasible = members_feasible T S apart; earns = sym (chosen_members T.count S T.worth) ∙ earns }) x e (fails (is_among R x) (λ h. not_both (from x h) f)) in
      (y, from y a, b, l)
    where
      from : (y : ℕ) → is_among (members T.count S) y ≡ true → has S y ≡ true
      from y a = (among_all y (members_are T.count S) a).1

  -- the one choice without a conflict that earns the best worth and leaves out the latest
  pub best_only : (S : List Bool) → length S ≡ T.count → Independent T S → chosen T.count S T.worth ≡ best_worth T → LeavesOutLatest T S → S ≡ best_choice T
  best_only S n apart earns latest = sym (latest_only T (best_choice T) S (best_length T) n (best_later S n apart earns) later)
    where
      later : LaterIn T S (best_choice T)
      later x e f =
          let (y, a, c, l) = latest (best_turns T) (best_set T lengths free single) x e (fails (is_among (best_turns T) x) (λ h. not_both (among_choice T x h) f)) in
          (y, among_choice T y a, c, l)

  pub best_choice_planned : ((t : ℕ) → t < T.count → 0 < T.worth t) → best_choice T ≡ choice T
  best_choice_planned worths =
      latest_only T (best_choice T) (choice T) (best_length T) (planned_length T)
      (best_later (choice T) (planned_length T) (apart_reads T (choice T) lengths (choice_apart T)) (sym (best_planned T lengths free single)))
      leaves
    where
      leaves : LaterIn T (choice T) (best_choice T)
      leaves x e f =
          let b = best_set T lengths free single in
          let (y, a, c, l) = planned_leaves T free single b.feasible.numbers (apart_set T lengths b.feasible) worths (omega (arith, best_planned T lengths free single, best_tally T lengths free single))
          (omega (arith, b.earns, best_tally T lengths free single)) x e (fails (is_among (best_turns T) x) (λ h. not_both (among_choice T x h) f)) in
          (y, among_choice T y a, c, l)
