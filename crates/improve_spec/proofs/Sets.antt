-- The list of sets: which ones it has, their order, and that a search compares those that its limit pays for. Assumes nothing.
use mathlib.Core.Path.{◌≡◌, refl, sym, ap, ◌∙◌}
use mathlib.Core.Logic.{◌⊎◌, inl, inr, ◌↔◌}
use mathlib.Core.Bool.{Bool, true, false}
use mathlib.Core.List.{List, [], ◌∷◌, ◌++◌}
use Prim.Native.Nat.{ℕ, zero, suc, ◌+◌, ◌-◌, ◌≤◌, ◌<◌}
use native.Mathlib.Omega.{arith}
use native.Mathlib.Decide.{dec_lt}
use lib.ListN.{length, set, take, length-set, length-replicate}
use lib.Seq.{get_or-set_same, get_or-set_other, ext_get_or, take_all}
use Rattle.lists.proofs.Bools.{fails, not_both}
use Rattle.model.specs.Turns.{Turns, PositiveLengths}
use Rattle.model.specs.Choice.{has, fits, worth_of_choice}
use Rattle.model.proofs.Choices.{none_chosen}
use Rattle.model.proofs.Filled.{NoConflict, put_apart}
use Rattle.model.proofs.Minutes
use Rattle.model.proofs.Readings.{apart_reads}
use Rattle.improve_spec.specs.Search.{Progress, compared, visited, cut_short, search_from, none_taken, from_plan, search_all}
use Rattle.improve_spec.specs.Sets.{sets_from, sets_of, one_more, visit_costs, paid_for, sets_within, compared_all, ListedSet, here, there, SetOf, ComesBefore, SetsInOrder, empty, leads, Compares}
use Rattle.improve_spec.proofs.Firsts.{listed_some, compared_first}
use Rattle.improve_spec.proofs.Promised.{whole_visits_lem}
use Rattle.improve_spec.proofs.Costs.{total, paid_none, paid_more, paid_few, paid_past, paid_within, paid_all, costs_with, costs_without, costs_last, costs_length, costs_total}
use Rattle.improve_spec.proofs.Searches.{compared_cases, sets_with, sets_without, visits_from, visits_none, search_visits, search_none, search_ind, Begins, begins_fits, begins_with, begins_without}

-- ---- lists of sets

listed_split : {U : List Bool} (As : List (List Bool)) {Bs : List (List Bool)} → ListedSet U (As ++ Bs) → ListedSet U As ⊎ ListedSet U Bs
listed_split [] h = inr h
listed_split (A ∷ As) here = inl here
listed_split (A ∷ As) (there h) = elim (listed_split As h) [ inl l ↦ inl (there l) | inr r ↦ inr r ]

listed_left : {U : List Bool} {As : List (List Bool)} (Bs : List (List Bool)) → ListedSet U As → ListedSet U (As ++ Bs)
listed_left Bs here = here
listed_left Bs (there h) = there (listed_left Bs h)

listed_right : {U : List Bool} (As : List (List Bool)) {Bs : List (List Bool)} → ListedSet U Bs → ListedSet U (As ++ Bs)
listed_right [] h = h
listed_right (A ∷ As) h = there (listed_right As h)

order_both : {As Bs : List (List Bool)} → SetsInOrder As → SetsInOrder Bs → ((U W : List Bool) → ListedSet U As → ListedSet W Bs → ComesBefore U W) → SetsInOrder (As ++ Bs)
order_both empty b h = b
order_both {As = A ∷ As} {Bs = Bs} (leads f a) b h = leads (λ W l. go W (listed_split As l)) (order_both a b (λ U W k l. h U W (there k) l))
  where
    go : (W : List Bool) → ListedSet W As ⊎ ListedSet W Bs → ComesBefore A W
    go W (inl k) = f W k
    go W (inr l) = h A W here l

module _ (T : Turns) where
  -- ---- what a listed set has

  -- of so many turns from t on
  record Grown (left t : ℕ) (S U : List Bool) : Type 0 where
    places : length U ≡ T.count
    apart : NoConflict T U
    before : (u : ℕ) → u < t → has U u ≡ has S u
    after : (u : ℕ) → t + left ≤ u → has U u ≡ false

  -- a set from which they grow
  record Root (t : ℕ) (S : List Bool) : Type 0 where
    places : length S ≡ T.count
    apart : NoConflict T S
    after : (u : ℕ) → t ≤ u → has S u ≡ false

  root_with : (t : ℕ) (S : List Bool) → fits T S t ≡ true → Root t S → Root (suc t) (set S t true)
  root_with t S f r =
      record {
        places = length-set S t true ∙ r.places;
        apart = put_apart T S t f r.apart;
        after = λ u l. get_or-set_other S t u true false (λ e. omega arith) ∙ r.after u (omega arith);
      }

  root_without : (t : ℕ) (S : List Bool) → Root t S → Root (suc t) S
  root_without t S r = record { places = r.places; apart = r.apart; after = λ u l. r.after u (omega arith) }

  grown_with : (left t : ℕ) (S U : List Bool) → Grown left (suc t) (set S t true) U → Grown (suc left) t S U
  grown_with left t S U g =
      record {
        places = g.places;
        apart = g.apart;
        before = λ u l. g.before u (omega arith) ∙ get_or-set_other S t u true false (λ e. omega arith);
        after = λ u l. g.after u (omega arith);
      }

  grown_without : (left t : ℕ) (S U : List Bool) → Grown left (suc t) S U → Grown (suc left) t S U
  grown_without left t S U g = record { places = g.places; apart = g.apart; before = λ u l. g.before u (omega arith); after = λ u l. g.after u (omega arith) }

  one_listed : (t : ℕ) (S U : List Bool) → ListedSet U (sets_from T 0 t S) → U ≡ S
  unfolding sets_from
  one_listed t S U here = refl
  one_listed t S U (there x3) = elim x3 [ ]

  sets_grown : (left t : ℕ) (S U : List Bool) → Root t S → ListedSet U (sets_from T left t S) → Grown left t S U
  sets_grown zero t S U r h =
      let e = one_listed t S U h in
      record { places = ap length e ∙ r.places; apart = rw e r.apart; before = λ u l. rw e; after = λ u l. rw e (r.after u (omega arith)) }
  sets_grown (suc left) t S U r h =
      go (fits T S t) refl h (λ f k. grown_with left t S U (sets_grown left (suc t) (set S t true) U (root_with t S f r) k)) (λ k. grown_without left t S U (sets_grown left (suc t) S U (root_without t S r) k))
    where
      go : (b : Bool) → fits T S t ≡ b → ListedSet U (sets_from T (suc left) t S) → (fits T S t ≡ true → ListedSet U (sets_from T left (suc t) (set S t true)) → Grown (suc left) t S U)
          → (ListedSet U (sets_from T left (suc t) S) → Grown (suc left) t S U) → Grown (suc left) t S U
      go true f h ih jh = elim (listed_split (sets_from T left (suc t) (set S t true)) (rw (sets_with T left t S f) at h)) [ inl k ↦ ih f k | inr k ↦ jh k ]
      go false f h ih jh = jh (rw (sets_without T left t S f) at h)

  -- ---- every such set is listed

  module _ (U : List Bool) (apart : NoConflict T U) (size : length U ≡ T.count) where
    last_listed : (t : ℕ) (S : List Bool) → Begins T U t S → ((u : ℕ) → t ≤ u → has U u ≡ false) → ListedSet U (sets_from T 0 t S)
    unfolding sets_from
    last_listed t S b a = rw same here
      where
        same : S ≡ U
        same = ext_get_or false S U (b.places ∙ sym size) (λ u l. go u (dec_lt u t))
          where
            go : (u : ℕ) → Dec (u < t) → has S u ≡ has U u
            go u (yes l) = b.before u l
            go u (no l) = b.after u (omega arith) ∙ sym (a u (omega arith))

    sets_listed : (left t : ℕ) (S : List Bool) → t + left ≤ T.count → Begins T U t S → ((u : ℕ) → t + left ≤ u → has U u ≡ false) → ListedSet U (sets_from T left t S)
    sets_listed zero t S m b a = last_listed t S b (λ u l. a u (omega arith))
    sets_listed (suc left) t S m b a =
        go (has U t) refl (fits T S t) refl
        (λ e. sets_listed left (suc t) (set S t true) (omega arith) (begins_with T U apart t S (omega arith) b e) (λ u l. a u (omega arith)))
        (λ e. sets_listed left (suc t) S (omega arith) (begins_without T U apart t S b e) (λ u l. a u (omega arith)))
      where
        go : (c : Bool) → has U t ≡ c → (d : Bool) → fits T S t ≡ d → (has U t ≡ true → ListedSet U (sets_from T left (suc t) (set S t true))) → (has U t ≡ false → ListedSet U (sets_from T left (suc t) S)) → ListedSet U (sets_from T (suc left) t S)
        go true e true f ih jh = rw (sets_with T left t S f) (listed_left (sets_from T left (suc t) S) (ih e))
        go true e false f ih jh = absurd (not_both (begins_fits T U apart t S (omega arith) b e) f)
        go false e true f ih jh = rw (sets_with T left t S f) (listed_right (sets_from T left (suc t) (set S t true)) (jh e))
        go false e false f ih jh = rw (sets_without T left t S f) (jh e)

  -- ---- in order

  one_in_order : (t : ℕ) (S : List Bool) → SetsInOrder (sets_from T 0 t S)
  unfolding sets_from
  one_in_order t S = leads {Us = []} (λ W h. absurd (omega (arith, listed_some {As = []} h))) empty

  sets_in_order : (left t : ℕ) (S : List Bool) → t + left ≤ T.count → Root t S → SetsInOrder (sets_from T left t S)
  sets_in_order zero t S m r = one_in_order t S
  sets_in_order (suc left) t S m r =
      go (fits T S t) refl (λ f. sets_in_order left (suc t) (set S t true) (omega arith) (root_with t S f r)) (sets_in_order left (suc t) S (omega arith) (root_without t S r))
    where
      before : fits T S t ≡ true → (U W : List Bool) → ListedSet U (sets_from T left (suc t) (set S t true)) → ListedSet W (sets_from T left (suc t) S) → ComesBefore U W
      before f U W k l =
          let g = sets_grown left (suc t) (set S t true) U (root_with t S f r) k in
          let h = sets_grown left (suc t) S W (root_without t S r) l in
          record {
            turn = t;
            same = λ u q. g.before u (omega arith) ∙ get_or-set_other S t u true false (λ e. omega arith) ∙ sym (h.before u (omega arith));
            first_has = g.before t (omega arith) ∙ get_or-set_same S t true false (omega (arith, r.places));
            second_not = h.before t (omega arith) ∙ r.after t (omega arith);
          }

      go : (b : Bool) → fits T S t ≡ b → (fits T S t ≡ true → SetsInOrder (sets_from T left (suc t) (set S t true))) → SetsInOrder (sets_from T left (suc t) S) → SetsInOrder (sets_from T (suc left) t S)
      go true f ih jh = rw (sets_with T left t S f) (order_both (ih f) jh (before f))
      go false f ih jh = rw (sets_without T left t S f) jh

  -- ---- the sets of the first t turns

  root_none : Root 0 (none_taken T)
  root_none = record { places = length-replicate T.count false; apart = λ x y hx hy d p q. absurd (none_chosen T.count x p); after = λ u l. fails (has (none_taken T) u) (λ h. none_chosen T.count u h) }

  module _ (lengths : PositiveLengths T) (t : ℕ) (few : t ≤ T.count) where
    -- listed are exactly the sets without conflict
    pub sets_are : (U : List Bool) → ListedSet U (sets_of T t) ↔ SetOf T t U
    unfolding sets_of
    sets_are U = (to, from)
      where
        to : ListedSet U (sets_from T t 0 (none_taken T)) → SetOf T t U
        to h =
            let g = sets_grown t 0 (none_taken T) U root_none h in
            record { places = g.places; first_only = λ u l. g.after u (omega arith); apart = apart_reads T U lengths g.apart }

        from : SetOf T t U → ListedSet U (sets_from T t 0 (none_taken T))
        from s =
            sets_listed U (λ x y hx hy d p q. (Minutes.no_conflict_is T lengths x y hx hy).1 (s.apart x y hx hy d p q)) s.places t 0 (none_taken T) (omega arith)
            (record { places = root_none.places; before = λ u l. absurd (omega arith); after = root_none.after }) (λ u l. s.first_only u (omega arith))

    -- each once, those with the lower turns first
    pub sets_ordered : SetsInOrder (sets_of T t)
    unfolding sets_of
    sets_ordered = sets_in_order t 0 (none_taken T) (omega arith) root_none

-- ---- a search compares the first of them

-- the same best set of the same worth
record SameBest (x y : Progress) : Type 0 where
  worth_is : x.worth ≡ y.worth
  best_is : x.best ≡ y.best

same_trans : {x y z : Progress} → SameBest x y → SameBest y z → SameBest x z
same_trans p q = record { worth_is = p.worth_is ∙ q.worth_is; best_is = p.best_is ∙ q.best_is }

take_past : (As Bs : List (List Bool)) (m k : ℕ) → k ≡ length As + m → take k (As ++ Bs) ≡ As ++ take m Bs
take_past [] Bs m k e = let z : k ≡ m = omega arith in rw z
take_past (A ∷ As) Bs m zero e = absurd (omega arith)
take_past (A ∷ As) Bs m (suc k) e = ap (λ (l : List (List Bool)). A ∷ l) (take_past As Bs m k (omega arith))

take_within : (As Bs : List (List Bool)) (k : ℕ) → k ≤ length As → take k (As ++ Bs) ≡ take k As
take_within As Bs zero h = refl
take_within [] Bs (suc k) h = absurd (omega arith)
take_within (A ∷ As) Bs (suc k) h = ap (λ (l : List (List Bool)). A ∷ l) (take_within As Bs k (omega arith))

module _ (T : Turns) where
  compared_alike : (S : List Bool) (x y : Progress) → SameBest x y → SameBest (compared T S x) (compared T S y)
  compared_alike S x y s =
      compared_cases T (λ z. SameBest z (compared T S y)) S x
      (λ l. compared_cases T (λ z. SameBest (record { visits = x.visits; whole = x.whole; worth = worth_of_choice T S; best = S }) z) S y (λ k. record { worth_is = refl; best_is = refl }) (λ k. absurd (omega (arith, s.worth_is))))
      (λ l. compared_cases T (λ z. SameBest x z) S y (λ k. absurd (omega (arith, s.worth_is))) (λ k. s))

  all_alike : (Ss : List (List Bool)) (x y : Progress) → SameBest x y → SameBest (compared_all T Ss x) (compared_all T Ss y)
  unfolding compared_all
  all_alike [] x y s = s
  all_alike (S ∷ Ss) x y s = all_alike Ss (compared T S x) (compared T S y) (compared_alike S x y s)

  all_both : (As Bs : List (List Bool)) (x : Progress) → compared_all T (As ++ Bs) x ≡ compared_all T Bs (compared_all T As x)
  unfolding compared_all
  all_both [] Bs x = refl
  all_both (A ∷ As) Bs x = all_both As Bs (compared T A x)

  -- y is what comparing the first of some sets makes of x, those that its visits pay for
  abbrev Reaches : List ℕ → List (List Bool) → Progress → Progress → Type 0
  Reaches cs Ss x y = SameBest y (compared_all T (take (paid_for x.visits cs) Ss) x)

  reaches_one : (t : ℕ) (S : List Bool) (x : Progress) → Reaches (visit_costs T 0 t S) (sets_from T 0 t S) x (compared T S x)
  unfolding sets_from compared_all
  reaches_one t S x =
      let e : paid_for x.visits (visit_costs T 0 t S) ≡ 1 = ap (paid_for x.visits) (costs_last T t S) ∙ paid_all x.visits (0 ∷ []) (omega arith) in
      rw e (record { worth_is = refl; best_is = refl })

  -- with no visit left nothing is compared
  reaches_none : (cs : List ℕ) (Ss : List (List Bool)) (x y : Progress) → x.visits ≡ 0 → SameBest y x → Reaches (one_more cs) Ss x y
  unfolding compared_all
  reaches_none cs Ss x y z s = let e : paid_for x.visits (one_more cs) ≡ 0 = ap (λ (v : ℕ). paid_for v (one_more cs)) z ∙ paid_none cs in rw e s

  -- a visit is made, and then the first sets are compared
  reaches_visited : (cs : List ℕ) (Ss : List (List Bool)) (x y : Progress) → (x.visits ≡ 0 → ⊥) → Reaches cs Ss (visited x) y → Reaches (one_more cs) Ss x y
  reaches_visited cs Ss x y z r =
      rw (paid_more x.visits cs z) (same_trans r (all_alike (take (paid_for (x.visits - 1) cs) Ss) (visited x) x (record { worth_is = refl; best_is = refl })))

  module _ (cs ds : List ℕ) (As Bs : List (List Bool)) (size : length cs ≡ length As) (x y z : Progress) (r : Reaches cs As x y) where
    reaches_both : total cs ≤ x.visits → y.visits ≡ x.visits - total cs → Reaches ds Bs y z → Reaches (cs ++ ds) (As ++ Bs) x z
    reaches_both l v q =
        let e : paid_for x.visits (cs ++ ds) ≡ length As + paid_for y.visits ds = paid_past x.visits cs ds l ∙ rw (size, v) in
        let k : take (paid_for x.visits cs) As ≡ As = take_all (paid_for x.visits cs) As (omega (arith, paid_all x.visits cs l)) in
        rw (e, take_past As Bs (paid_for y.visits ds) (length As + paid_for y.visits ds) refl, all_both As (take (paid_for y.visits ds) Bs) x)
        (same_trans q (all_alike (take (paid_for y.visits ds) Bs) y (compared_all T As x) (rw k at r)))

    reaches_first : x.visits < total cs → SameBest z y → Reaches (cs ++ ds) (As ++ Bs) x z
    reaches_first l s = rw (paid_within x.visits cs ds l, take_within As Bs (paid_for x.visits cs) (omega (arith, paid_few x.visits cs))) (same_trans s r)

  -- with no visit left a turn ends the search
  spent : (left t : ℕ) (S : List Bool) (y : Progress) → (left ≡ 0 → ⊥) → y.visits ≡ 0 → SameBest (search_from T left t S y) y
  spent zero t S y z e = absurd (z refl)
  spent (suc left) t S y z e = rw (search_none T left t S y e) (record { worth_is = refl; best_is = refl })

  some_left : (left t : ℕ) (S : List Bool) → 1 ≤ visits_from T left t S → left ≡ 0 → ⊥
  some_left left t S l q = let v : visits_from T left t S ≡ 0 = ap (λ (k : ℕ). visits_from T k t S) q ∙ visits_none T t S in omega (arith, v)

  -- the sets with turn t, then those without it
  module _ (left t : ℕ) (S : List Bool) (x : Progress)
      (ih : (y : Progress) → Reaches (visit_costs T left (suc t) (set S t true)) (sets_from T left (suc t) (set S t true)) y (search_from T left (suc t) (set S t true) y))
      (jh : (y : Progress) → Reaches (visit_costs T left (suc t) S) (sets_from T left (suc t) S) y (search_from T left (suc t) S y)) where
    reaches_with : Dec (x.visits < visits_from T left (suc t) (set S t true))
        → Reaches (visit_costs T left (suc t) (set S t true) ++ visit_costs T left (suc t) S) (sets_from T left (suc t) (set S t true) ++ sets_from T left (suc t) S) x
        (search_from T left (suc t) S (search_from T left (suc t) (set S t true) x))
    reaches_with (yes l) =
        reaches_first (visit_costs T left (suc t) (set S t true)) (visit_costs T left (suc t) S) (sets_from T left (suc t) (set S t true)) (sets_from T left (suc t) S)
        (costs_length T left (suc t) (set S t true)) x (search_from T left (suc t) (set S t true) x) _ (ih x) (omega (arith, costs_total T left (suc t) (set S t true)))
        (spent left (suc t) S (search_from T left (suc t) (set S t true) x) (some_left left (suc t) (set S t true) (omega arith)) (omega (arith, search_visits T left (suc t) (set S t true) x)))
    reaches_with (no l) =
        reaches_both (visit_costs T left (suc t) (set S t true)) (visit_costs T left (suc t) S) (sets_from T left (suc t) (set S t true)) (sets_from T left (suc t) S)
        (costs_length T left (suc t) (set S t true)) x (search_from T left (suc t) (set S t true) x) _ (ih x) (omega (arith, costs_total T left (suc t) (set S t true)))
        (omega (arith, search_visits T left (suc t) (set S t true) x, costs_total T left (suc t) (set S t true))) (jh (search_from T left (suc t) (set S t true) x))

  none_costs : (left t : ℕ) (S : List Bool) (x : Progress) → x.visits ≡ 0 → Reaches (visit_costs T (suc left) t S) (sets_from T (suc left) t S) x (cut_short x)
  none_costs left t S x z = go (fits T S t) refl
    where
      go : (b : Bool) → fits T S t ≡ b → Reaches (visit_costs T (suc left) t S) (sets_from T (suc left) t S) x (cut_short x)
      go true f = rw (costs_with T left t S f) (reaches_none _ (sets_from T (suc left) t S) x (cut_short x) z (record { worth_is = refl; best_is = refl }))
      go false f = rw (costs_without T left t S f) (reaches_none _ (sets_from T (suc left) t S) x (cut_short x) z (record { worth_is = refl; best_is = refl }))

  search_reaches : (left t : ℕ) (S : List Bool) (x : Progress) → Reaches (visit_costs T left t S) (sets_from T left t S) x (search_from T left t S x)
  search_reaches =
      search_ind T (λ left t S x y. Reaches (visit_costs T left t S) (sets_from T left t S) x y)
      reaches_one
      none_costs
      (λ left t S x z f ih jh.
      rw (sets_with T left t S f, costs_with T left t S f)
      (reaches_visited _ _ x _ z (reaches_with left t S (visited x) ih jh (dec_lt (x.visits - 1) (visits_from T left (suc t) (set S t true))))))
      (λ left t S x z f jh. rw (sets_without T left t S f, costs_without T left t S f) (reaches_visited _ _ x _ z (jh (visited x))))

  pub search_compares : PositiveLengths T → (limit : ℕ) → Compares T limit (search_all T limit).worth (search_all T limit).best
  unfolding search_all sets_of sets_within
  search_compares lengths limit =
      let r = search_reaches T.count 0 (none_taken T) (from_plan T limit) in
      let size = costs_length T T.count 0 (none_taken T) in
      let cost = costs_total T T.count 0 (none_taken T) ∙ whole_visits_lem T in
      record {
        sets = sets_are T lengths T.count (omega arith);
        ordered = sets_ordered T lengths T.count (omega arith);
        all = λ l. take_all (paid_for limit (visit_costs T T.count 0 (none_taken T))) (sets_from T T.count 0 (none_taken T))
            (omega (arith, size, paid_all limit (visit_costs T T.count 0 (none_taken T)) (omega (arith, cost))));
        worth_is = r.worth_is;
        best_is = r.best_is;
        first_most = rw r.best_is (compared_first T (take (paid_for limit (visit_costs T T.count 0 (none_taken T))) (sets_from T T.count 0 (none_taken T))) (from_plan T limit) refl);
        costs = size;
        cost_all = cost;
      }
