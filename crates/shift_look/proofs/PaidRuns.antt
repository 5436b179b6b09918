-- Runs of an order: the turns of one groomer and one end, and those that are in the way of a turn, stand side by side. With drivers for groomers that is what a turn pays for. Assumes nothing.
use Prim.Native.Nat.{ℕ, zero, suc, ◌+◌, ◌-◌, ◌≤◌, ◌<◌}
use mathlib.Core.Path.{◌≡◌, refl, sym, ◌∙◌}
use mathlib.Core.Logic.{◌≢◌, ◌↔◌}
use mathlib.Core.Bool.{Bool, true, false, cond}
use mathlib.Core.List.{List, [], ◌∷◌}
use native.Mathlib.Omega.{arith}
use native.Mathlib.Decide.{ℕ_discrete, dec_lt}
use lib.Dec.{leb, eqb}
use lib.ListN.{length, drop, get_or, length-drop}
use lib.Seq.{get_or-drop}
use borrow.Author.Tests.{leb-true, le-leb, eq-eqb, ne_eqb}
use Rattle.lists.specs.Lists.{sum_over, All, none, more}
use Rattle.lists.proofs.Bools.{and_1, and_2, and_of, not_both}
use Rattle.lists.proofs.Sums.{sum_point}
use Rattle.model.specs.Turns.{Turns, PositiveLengths, by_driver}
use Rattle.model.proofs.Conflicts
use Rattle.best_spec.specs.Table.{turn_order, in_the_way, blocked}
use Rattle.best_spec.proofs.Ordering.{Leads, by_groomer_lem, by_end, by_number, Before, Ordered, empty, first, ordered_at, order_ordered, order_sum}
use Rattle.best_spec.proofs.Tables.{leads_groomer, way_stops, way_is, is_way}
use Rattle.best_table.specs.OrderAndTable.{place_before}
use Rattle.best_table.proofs.OrderCases.{order_length, order_within}
use Rattle.best_table.proofs.BestCases.{before_within}
use Rattle.limit_spec.specs.Prices.{pays_turn}
use Rattle.shift_look.specs.OrdersAndCounts.{by_drivers, OneRun, RunStart, PaysAs, PlaceRun}

-- ---- an order has each turn at just one place

place_of : (u : ℕ) (ts : List ℕ) → 1 ≤ sum_over (λ x. cond (eqb x u) 1 0) ts → (j : ℕ) × (j < length ts) × (get_or ts j 0 ≡ u)
place_of u [] h = absurd (omega arith)
place_of u (x ∷ ts) h = go (ℕ_discrete x u) h (place_of u ts)
  where
    go : Dec (x ≡ u) → 1 ≤ cond (eqb x u) 1 0 + sum_over (λ x. cond (eqb x u) 1 0) ts → (1 ≤ sum_over (λ x. cond (eqb x u) 1 0) ts → (j : ℕ) × (j < length ts) × (get_or ts j 0 ≡ u)) →
        (j : ℕ) × (j < suc (length ts)) × (get_or (x ∷ ts) j 0 ≡ u)
    go (yes e) k ih = (0, omega arith, e)
    go (no d) k ih = let z = rw (ne_eqb x u d) at k in let (j, l, q) = ih (omega arith) in (suc j, omega arith, q)

module _ (D : Turns) where
  -- every turn has a place
  pub order_place : (u : ℕ) → u < D.count → (j : ℕ) × (j < D.count) × (get_or (turn_order D) j 0 ≡ u)
  order_place u h =
      let f : ℕ → ℕ = λ x. cond (eqb x u) 1 0 in
      let one : f u ≡ 1 = rw (eq-eqb u u refl) in
      let (j, l, q) = place_of u (turn_order D) (omega (arith, one, order_sum D f, sum_point f D.count u h)) in
      (j, omega (arith, order_length D), q)

  before_apart : {x : ℕ} {ts : List ℕ} → All (Before D x) ts → (j : ℕ) → j < length ts → x ≢ get_or ts j 0
  before_apart none j h = absurd (omega arith)
  before_apart (more b bs) zero h = b.apart
  before_apart (more b bs) (suc j) h = before_apart bs j (omega arith)

  ordered_apart : {ts : List ℕ} → Ordered D ts → (i j : ℕ) → i < j → j < length ts → get_or ts i 0 ≢ get_or ts j 0
  ordered_apart empty i j l h = absurd (omega arith)
  ordered_apart (first b o) i zero l h = absurd (omega arith)
  ordered_apart (first b o) zero (suc j) l h = before_apart b j (omega arith)
  ordered_apart (first b o) (suc i) (suc j) l h = ordered_apart o i j (omega arith) (omega arith)

  -- two places have two turns
  pub order_apart : (i j : ℕ) → i < j → j < D.count → get_or (turn_order D) i 0 ≢ get_or (turn_order D) j 0
  order_apart i j l h = ordered_apart (order_ordered D) i j l (omega (arith, order_length D))

  -- ---- what stands before and after

  -- the turn at place i
  abbrev at : ℕ → ℕ
  at i = get_or (turn_order D) i 0

  leads_at : (i j : ℕ) → i < j → j < D.count → Leads D (at i) (at j)
  leads_at i j l h = ordered_at D (order_ordered D) i j l (omega (arith, order_length D))

  groomers_rise : (i j : ℕ) → i < j → j < D.count → D.groomer (at i) ≤ D.groomer (at j)
  groomers_rise i j l h = leads_groomer D (at i) (at j) (leads_at i j l h)

  pub ends_fall_lem : (i j : ℕ) → i < j → j < D.count → D.groomer (at i) ≡ D.groomer (at j) → D.end (at j) ≤ D.end (at i)
  ends_fall_lem i j l h g = go (leads_at i j l h)
    where
      go : Leads D (at i) (at j) → D.end (at j) ≤ D.end (at i)
      go (by_groomer_lem k) = absurd (omega arith)
      go (by_end f k) = omega arith
      go (by_number f e k) = omega arith

  -- ---- where a run begins

  pub run_first : RunStart D 0 0
  run_first = record { upto = omega arith; same = λ k a b. let z : k ≡ 0 = omega arith in rw z (record { groomer = refl; end = refl }); first = λ k l s. absurd (omega arith) }

  module _ (i : ℕ) (p : 0 < i) (h : i < D.count) where
    pub run_again : (from : ℕ) → OneRun D (i - 1) i → RunStart D (i - 1) from → RunStart D i from
    run_again from s r = record { upto = omega (arith, r.upto); same = λ k a b. go k a b (ℕ_discrete k i); first = λ k l t. r.first k l (record { groomer = t.groomer ∙ sym s.groomer; end = t.end ∙ sym s.end }) }
      where
        go : (k : ℕ) → from ≤ k → k ≤ i → Dec (k ≡ i) → OneRun D k i
        go k a b (yes d) = rw d (record { groomer = refl; end = refl })
        go k a b (no d) = let t = r.same k a (omega arith) in record { groomer = t.groomer ∙ s.groomer; end = t.end ∙ s.end }

    pub run_new : (OneRun D (i - 1) i → ⊥) → RunStart D i i
    run_new d = record { upto = omega arith; same = λ k a b. let z : k ≡ i = omega arith in rw z (record { groomer = refl; end = refl }); first = λ k l s. go k l s (ℕ_discrete k (i - 1)) }
      where
        go : (k : ℕ) → k < i → OneRun D k i → Dec (k ≡ i - 1) → ⊥
        go k l s (yes z) = d (rw z at s)
        go k l s (no z) =
            let g : D.groomer (at (i - 1)) ≡ D.groomer (at i) = omega (arith, s.groomer, groomers_rise k (i - 1) (omega arith) (omega arith), groomers_rise (i - 1) i (omega arith) h) in
            let f : D.groomer (at k) ≡ D.groomer (at (i - 1)) = s.groomer ∙ sym g in
            d (record { groomer = g; end = omega (arith, s.end, ends_fall_lem k (i - 1) (omega arith) (omega arith) f, ends_fall_lem (i - 1) i (omega arith) h g) })

  -- ---- what is in the way

  passed_way : (t : ℕ) (us : List ℕ) (k : ℕ) → k < blocked D t us → in_the_way D t (get_or us k 0) ≡ true
  unfolding blocked
  passed_way t [] k h = absurd (omega arith)
  passed_way t (u ∷ us) k h = go k (in_the_way D t u) refl h (λ j. passed_way t us j)
    where
      go : (k : ℕ) (b : Bool) → in_the_way D t u ≡ b → k < cond b (suc (blocked D t us)) 0 → ((j : ℕ) → j < blocked D t us → in_the_way D t (get_or us j 0) ≡ true) → in_the_way D t (get_or (u ∷ us) k 0) ≡ true
      go zero true e h ih = e
      go (suc k) true e h ih = ih k (omega arith)
      go k false e h ih = absurd (omega arith)

  stop_way : (t : ℕ) (us : List ℕ) → blocked D t us < length us → in_the_way D t (get_or us (blocked D t us) 0) ≡ false
  unfolding blocked
  stop_way t [] h = absurd (omega arith)
  stop_way t (u ∷ us) h = go (in_the_way D t u) refl h (stop_way t us)
    where
      go : (b : Bool) → in_the_way D t u ≡ b → cond b (suc (blocked D t us)) 0 < suc (length us) → (blocked D t us < length us → in_the_way D t (get_or us (blocked D t us) 0) ≡ false) →
          in_the_way D t (get_or (u ∷ us) (cond b (suc (blocked D t us)) 0) 0) ≡ false
      go true e h ih = ih (omega arith)
      go false e h ih = e

  module _ (i j : ℕ) (h : j < D.count) where
    pub behind_way : i < j → j < place_before D i → in_the_way D (at i) (at j) ≡ true
    behind_way l m =
        let e : i + 1 + (j - (i + 1)) ≡ j = omega arith in
        rw e at (rw get_or-drop at (passed_way (at i) (drop (i + 1) (turn_order D)) (j - (i + 1)) (omega arith)))

    pub past_way : i < D.count → place_before D i ≤ j → in_the_way D (at i) (at j) ≡ false
    past_way k m = go (ℕ_discrete (place_before D i) j)
      where
        stop : place_before D i < D.count → in_the_way D (at i) (at (place_before D i)) ≡ false
        stop q = rw get_or-drop at (stop_way (at i) (drop (i + 1) (turn_order D)) (omega (arith, length-drop (i + 1) (turn_order D), order_length D)))

        go : Dec (place_before D i ≡ j) → in_the_way D (at i) (at j) ≡ false
        go (yes e) = rw e at (stop (omega arith))
        go (no e) = way_stops D (at i) (at (place_before D i)) (at j) (leads_at i (place_before D i) (omega arith) (omega arith)) (leads_at (place_before D i) j (omega arith) h) (stop (omega arith))

  -- ---- what the turn at a place pays for

  pub run_none : (i : ℕ) → D.groomer (at i) ≡ 0 → PlaceRun D i 0 0
  run_none i e = record { none = λ z. refl; rising = omega arith; within = omega arith; pays = λ j h. (λ q. absurd (q.named e), λ r. absurd (omega (arith, r.1))) }

  pub run_is : (i from : ℕ) → PositiveLengths D → i < D.count → D.groomer (at i) ≢ 0 → RunStart D i from → PlaceRun D i from (place_before D i)
  run_is i from lengths hi d r =
      record { none = λ z. absurd (d z); rising = omega (arith, r.upto); within = before_within D i hi; pays = λ j h. (λ q. (not_before j h q (dec_lt j from), not_past j h q (dec_lt j (place_before D i))), λ s. inside j h s.0 s.1 (dec_lt i j)) }
    where
      not_before : (j : ℕ) → j < D.count → PaysAs D (at j) (at i) → Dec (j < from) → from ≤ j
      not_before j h q (yes l) = absurd (r.first j l (record { groomer = q.same; end = omega (arith, q.no_later, ends_fall_lem j i (omega (arith, r.upto)) hi q.same) }))
      not_before j h q (no l) = omega arith

      not_past : (j : ℕ) → j < D.count → PaysAs D (at j) (at i) → Dec (j < place_before D i) → j < place_before D i
      not_past j h q (yes l) = l
      not_past j h q (no l) = absurd (not_both (is_way D (at i) (at j) (sym q.same) q.near) (past_way i j h hi (omega arith)))

      inside : (j : ℕ) → j < D.count → from ≤ j → j < place_before D i → Dec (i < j) → PaysAs D (at j) (at i)
      inside j h a b (yes l) =
          let (g, n) = way_is D (at i) (at j) (behind_way i j h l b) in
          record { named = d; same = sym g; no_later = ends_fall_lem i j l h g; near = n }
      inside j h a b (no l) =
          let s = r.same j a (omega arith) in
          record { named = d; same = s.groomer; no_later = omega (arith, s.end); near = omega (arith, s.end, lengths (at i) (order_within D i hi)) }

-- ---- with drivers for groomers

module _ (T : Turns) (u t : ℕ) (hu : T.start u < T.end u) where
  pub pays_as : (pays_turn T u t ≡ true) ↔ PaysAs (by_drivers T) u t
  unfolding pays_turn by_drivers
  pays_as = (
    λ e.
        let (d, o) = Conflicts.driver_is T u t (and_1 (by_driver T u t) (leb (T.end u) (T.end t)) e) in
        record { named = λ z. d.named (d.same ∙ z); same = d.same; no_later = leb-true (T.end u) (T.end t) (and_2 (by_driver T u t) (leb (T.end u) (T.end t)) e); near = (Conflicts.overlap_lt T u t o).1 },
    λ p.
        and_of (by_driver T u t) (leb (T.end u) (T.end t))
        (Conflicts.is_driver T u t (record { named = λ z. p.named (sym p.same ∙ z); same = p.same }) (Conflicts.lt_overlap T u t (omega (arith, p.no_later), p.near)))
        (le-leb (T.end u) (T.end t) p.no_later),
  )
