-- Whatever the prices are, no feasible set is worth more than the limit; and who pays what, and the most of a groomer, in words. Assumes nothing.
use mathlib.Core.Path.{◌≡◌, refl, sym, ap, ◌∙◌}
use mathlib.Core.Logic.{◌≢◌, ◌↔◌}
use mathlib.Core.Bool.{Bool, true, false, cond}
use mathlib.Core.List.{List}
use Prim.Native.Nat.{ℕ, ◌+◌, ◌-◌, ◌≤◌, ◌<◌}
use native.Mathlib.Omega.{arith}
use lib.Dec.{ltb, leb, eqb}
use lib.ListN.{get_or}
use borrow.Author.Tests.{ltb-true, eqb-true, leb-true, le-leb}
use Rattle.lists.specs.Lists.{sum_over, below}
use Rattle.lists.proofs.Bools.{and_1, and_2, and_of}
use Rattle.lists.proofs.Sums.{all_map, sum_add, sum_mono, sum_zero, sum_same, all_of, all_both}
use Rattle.model.specs.Turns.{Turns, PositiveLengths, NoDrivers, by_driver, one_driver, conflict, Holds, Conflict, same_slope, same_groomer, same_driver}
use Rattle.model.specs.Feasible.{Feasible, worth_of, OneTurnASlope}
use Rattle.model.proofs.Groups.{Clique, one_of}
use Rattle.model.proofs.Bound.{apart_set}
use Rattle.model.proofs.Minutes.{overlap_minute, minute_overlap}
use Rattle.model.proofs.Conflicts
use Rattle.best_spec.specs.Table.{best_worth}
use Rattle.best_spec.specs.Groomers.{groomer_worth, groomers_worth, OwnSet}
use Rattle.best_spec.proofs.Optimal.{best_greatest}
use Rattle.best_spec.proofs.Own.{groomer_most, groomers_sum}
use Rattle.limit_spec.specs.Prices.{slope_price, turn_price, pays_turn, paid_by, counts_for, priced_turns, price_sum, limit_by, Pays, GroomerSet, MostCounted}
use Rattle.limit_spec.proofs.Duality.{weak_duality, paid_costs, paid_one}
use Rattle.limit_spec.proofs.Bare.{with_worths, bare, bare_best, bare_groomers}

-- ---- who pays a turn's price

module _ (T : Turns) (lengths : PositiveLengths T) (u t : ℕ) (hu : u < T.count) (ht : t < T.count) where
  pub pays_iff : (pays_turn T u t ≡ true) ↔ Pays T u t
  unfolding pays_turn
  pays_iff = (
    λ e.
        let (d, o) = Conflicts.driver_is T u t (and_1 (by_driver T u t) (leb (T.end u) (T.end t)) e) in
        let (m, a, b) = overlap_minute T u t (lengths u hu) (lengths t ht) o in
        record { driver = d; minute = m; holds = a; holds_too = b; no_later = leb-true (T.end u) (T.end t) (and_2 (by_driver T u t) (leb (T.end u) (T.end t)) e) },
    λ p.
        and_of (by_driver T u t) (leb (T.end u) (T.end t)) (Conflicts.is_driver T u t p.driver (minute_overlap T u t p.minute p.holds p.holds_too))
        (le-leb (T.end u) (T.end t) p.no_later),
  )

-- a turn that names a driver pays its own price
pub pays_own : (T : Turns) → PositiveLengths T → (t : ℕ) → t < T.count → T.driver t ≢ 0 → Pays T t t
pays_own T lengths t h d =
    let l = lengths t h in
    let own : Holds T t (T.start t) = record { begun = omega arith; not_over = omega arith } in
    record { driver = record { named = d; same = refl }; minute = T.start t; holds = own; holds_too = own; no_later = omega arith }

-- ---- the turns at their counts

module _ (T : Turns) (slopes : ℕ) (prices : List ℕ) where
  pub priced_lengths : PositiveLengths T → PositiveLengths (priced_turns T slopes prices)
  unfolding priced_turns
  priced_lengths h = h

  pub priced_driverless : NoDrivers (priced_turns T slopes prices)
  unfolding priced_turns
  priced_driverless t h = refl

  pub priced_single : OneTurnASlope (priced_turns T slopes prices)
  unfolding priced_turns
  priced_single x y hx hy e = e

  -- they conflict by groomer alone
  priced_conflict : (t u : ℕ) → t ≢ u → Conflict (priced_turns T slopes prices) t u → (T.groomer t ≡ T.groomer u) × (minute : ℕ) × Holds T t minute × Holds T u minute
  unfolding priced_turns
  priced_conflict t u d (same_slope e) = absurd (d e)
  priced_conflict t u d (same_groomer g minute a b) = (g, minute, record { begun = a.begun; not_over = a.not_over }, record { begun = b.begun; not_over = b.not_over })
  priced_conflict t u d (same_driver o minute a b) = absurd (o.named refl)

  conflict_priced : (t u : ℕ) → T.groomer t ≡ T.groomer u → (minute : ℕ) → Holds T t minute → Holds T u minute → Conflict (priced_turns T slopes prices) t u
  unfolding priced_turns
  conflict_priced t u g minute a b = same_groomer g minute (record { begun = a.begun; not_over = a.not_over }) (record { begun = b.begun; not_over = b.not_over })

  -- what is feasible stays feasible
  priced_feasible : {R : List ℕ} → Feasible T R → Feasible (priced_turns T slopes prices) R
  unfolding priced_turns
  priced_feasible f =
      record {
        numbers = f.numbers;
        once = f.once;
        apart = all_map (λ t h. all_map (λ u g d c. let (e, minute, a, b) = priced_conflict t u d c in g d (same_groomer e minute a b)) h) f.apart;
      }

  -- what a feasible set counts for is at most the best
  counts_most : PositiveLengths T → {R : List ℕ} → Feasible T R → sum_over (counts_for T slopes prices) R ≤ best_worth (priced_turns T slopes prices)
  unfolding priced_turns
  counts_most lengths {R} f = best_greatest (priced_turns T slopes prices) (priced_lengths lengths) priced_driverless priced_single R (priced_feasible f)

  -- the sum over the groomers is the table over all turns
  pub priced_sum : (n : ℕ) → ((t : ℕ) → t < T.count → (1 ≤ T.groomer t) × (T.groomer t ≤ n)) → best_worth (priced_turns T slopes prices) ≡ groomers_worth (priced_turns T slopes prices) n
  unfolding priced_turns
  priced_sum n numbers = groomers_sum (priced_turns T slopes prices) n numbers

  -- slopes and drivers may as well stay as they are
  pub priced_best : best_worth (with_worths T (counts_for T slopes prices)) ≡ best_worth (priced_turns T slopes prices)
  unfolding priced_turns
  priced_best = sym (bare_best (with_worths T (counts_for T slopes prices)))

  -- ---- the most of a groomer

  set_own : {g : ℕ} {R : List ℕ} → GroomerSet T g R → OwnSet (priced_turns T slopes prices) g R
  unfolding priced_turns
  set_own s =
      record {
        feasible = record {
          numbers = s.numbers;
          once = s.once;
          apart = all_map (λ t h. all_map (λ u g d c. let (e, minute, a, b) = priced_conflict t u d c in g d minute a b) h) s.apart;
        };
        own = s.own;
      }

  own_set : {g : ℕ} {R : List ℕ} → OwnSet (priced_turns T slopes prices) g R → GroomerSet T g R
  unfolding priced_turns
  own_set {g} {R} o =
      record {
        numbers = o.feasible.numbers;
        own = o.own;
        once = o.feasible.once;
        apart = all_map (λ t h. all_map (λ u k d minute a b. k.1 d (conflict_priced t u (h.0 ∙ sym k.0) minute a b)) (all_both o.own h.1)) (all_both o.own o.feasible.apart);
      }

  pub most_counted : PositiveLengths T → (g : ℕ) → MostCounted T slopes prices g (groomer_worth (priced_turns T slopes prices) g)
  unfolding priced_turns
  most_counted lengths g =
      let m = groomer_most (priced_turns T slopes prices) (priced_lengths lengths) priced_driverless priced_single g in
      record { attained = (m.attained.0, own_set m.attained.1, m.attained.2); greatest = λ R s. m.greatest R (set_own s) }

-- ---- a rule is kept: no feasible set pays more than the prices

module _ (T : Turns) where
  slope_clique : (k : ℕ) → Clique (λ t. t < T.count) (conflict T) (λ t. eqb (T.slope t) (k + 1))
  unfolding Clique
  slope_clique k x y hx hy p q = Conflicts.conflicts T x y (Conflicts.slopes (Conflicts.is_slope T x y (eqb-true (T.slope x) (k + 1) p ∙ sym (eqb-true (T.slope y) (k + 1) q))))

  turn_clique : (u : ℕ) → Clique (λ t. t < T.count) (conflict T) (pays_turn T u)
  unfolding Clique pays_turn
  turn_clique u x y hx hy p q =
      Conflicts.driver_conflict T u x y (and_1 (by_driver T u x) (leb (T.end u) (T.end x)) p) (and_1 (by_driver T u y) (leb (T.end u) (T.end y)) q)
      (leb-true (T.end u) (T.end x) (and_2 (by_driver T u x) (leb (T.end u) (T.end x)) p)) (leb-true (T.end u) (T.end y) (and_2 (by_driver T u y) (leb (T.end u) (T.end y)) q))

  -- nobody pays for a turn that names no driver
  no_payer : (u t : ℕ) → ltb 0 (T.driver u) ≡ false → pays_turn T u t ≡ false
  unfolding pays_turn by_driver one_driver
  no_payer u t e = rw e

module _ (T : Turns) (lengths : PositiveLengths T) (slopes : ℕ) (numbers : (t : ℕ) → t < T.count → (1 ≤ T.slope t) × (T.slope t ≤ slopes)) (prices : List ℕ) (R : List ℕ) (f : Feasible T R) where
  slopes_paid : sum_over (λ t. slope_price prices (T.slope t)) R ≤ sum_over (λ k. slope_price prices (k + 1)) (below slopes)
  slopes_paid =
      omega (
        arith,
        sum_mono (λ t. slope_price prices (T.slope t)) (λ t. sum_over (λ k. cond (eqb (T.slope t) (k + 1)) (slope_price prices (k + 1)) 0) (below slopes))
            (all_map (λ t h. omega (arith, paid_one (slope_price prices) slopes (T.slope t) (numbers t h).0 (numbers t h).1)) f.numbers),
        paid_costs slopes (λ k t. cond (eqb (T.slope t) (k + 1)) (slope_price prices (k + 1)) 0) (λ k. slope_price prices (k + 1)) R
            (λ k h. one_of (λ t. t < T.count) (conflict T) (slope_price prices (k + 1)) (λ t. eqb (T.slope t) (k + 1)) (slope_clique T k) f.numbers (apart_set T lengths f)),
      )

  turns_paid : sum_over (λ t. sum_over (λ u. cond (pays_turn T u t) (turn_price slopes prices u) 0) (below T.count)) R ≤ sum_over (λ u. cond (ltb 0 (T.driver u)) (turn_price slopes prices u) 0) (below T.count)
  turns_paid = paid_costs T.count (λ u t. cond (pays_turn T u t) (turn_price slopes prices u) 0) (λ u. cond (ltb 0 (T.driver u)) (turn_price slopes prices u) 0) R (λ u h. by_turn u (ltb 0 (T.driver u)) refl)
    where
      by_turn : (u : ℕ) (b : Bool) → ltb 0 (T.driver u) ≡ b → sum_over (λ t. cond (pays_turn T u t) (turn_price slopes prices u) 0) R ≤ cond b (turn_price slopes prices u) 0
      by_turn u true e = one_of (λ t. t < T.count) (conflict T) (turn_price slopes prices u) (pays_turn T u) (turn_clique T u) f.numbers (apart_set T lengths f)
      by_turn u false e = omega (arith, sum_zero (λ t. cond (pays_turn T u t) (turn_price slopes prices u) 0) (all_of (λ t. rw (no_payer T u t e)) R))

  paid_most : sum_over (paid_by T slopes prices) R ≤ price_sum T slopes prices
  unfolding paid_by price_sum
  paid_most = omega (arith, sum_add (λ t. slope_price prices (T.slope t)) (λ t. sum_over (λ u. cond (pays_turn T u t) (turn_price slopes prices u) 0) (below T.count)) R, slopes_paid, turns_paid)

  -- no feasible set is worth more than the limit
  pub within_limit : (n : ℕ) → ((t : ℕ) → t < T.count → (1 ≤ T.groomer t) × (T.groomer t ≤ n)) → worth_of T R ≤ limit_by T n slopes prices
  unfolding limit_by counts_for
  within_limit n own =
      weak_duality T.worth (paid_by T slopes prices) R (price_sum T slopes prices) (groomers_worth (priced_turns T slopes prices) n) paid_most
      (omega (arith, counts_most T slopes prices lengths f, priced_sum T slopes prices n own))

-- ---- no prices

module _ (T : Turns) (slopes : ℕ) (prices : List ℕ) (free : (k : ℕ) → get_or prices k 0 ≡ 0) where
  nothing_paid : (t : ℕ) → paid_by T slopes prices t ≡ 0
  unfolding paid_by slope_price turn_price
  nothing_paid t = omega (arith, free (T.slope t - 1), sum_zero (λ u. cond (pays_turn T u t) (get_or prices (slopes + u) 0) 0) (all_of (λ u. no_price (pays_turn T u t) u) (below T.count)))
    where
      no_price : (b : Bool) (u : ℕ) → cond b (get_or prices (slopes + u) 0) 0 ≡ 0
      no_price true u = free (slopes + u)
      no_price false u = refl

  no_prices : price_sum T slopes prices ≡ 0
  unfolding price_sum slope_price turn_price
  no_prices =
      omega (
        arith,
        sum_zero (λ k. get_or prices (k + 1 - 1) 0) (all_of (λ k. free (k + 1 - 1)) (below slopes)),
        sum_zero (λ u. cond (ltb 0 (T.driver u)) (get_or prices (slopes + u) 0) 0) (all_of (λ u. no_price (ltb 0 (T.driver u)) u) (below T.count)),
      )
    where
      no_price : (b : Bool) (u : ℕ) → cond b (get_or prices (slopes + u) 0) 0 ≡ 0
      no_price true u = free (slopes + u)
      no_price false u = refl

  counts_worth : (t : ℕ) → counts_for T slopes prices t ≡ T.worth t
  unfolding counts_for
  counts_worth t = omega (arith, nothing_paid t)

  -- then only slopes and drivers are left out of account
  free_priced : priced_turns T slopes prices ≡ bare T
  unfolding priced_turns
  free_priced = ap (λ (w : ℕ → ℕ). bare (with_worths T w)) (λ j t. counts_worth t j)

  pub free_limit : (n : ℕ) → limit_by T n slopes prices ≡ groomers_worth T n
  unfolding limit_by
  free_limit n = rw (no_prices, free_priced) (omega (arith, bare_groomers T n))

-- ---- prices that play no part

pays_driver : (T : Turns) (u t : ℕ) → pays_turn T u t ≡ true → one_driver T u t ≡ true
unfolding pays_turn by_driver
pays_driver T u t e = search (and_1, and_2)

-- two lists with the same prices of all slopes and of all turns that name a driver
module _ (T : Turns) (slopes : ℕ) (prices other : List ℕ) (all_slopes : (k : ℕ) → k < slopes → slope_price other (k + 1) ≡ slope_price prices (k + 1))
    (own_slopes : (t : ℕ) → slope_price other (T.slope t) ≡ slope_price prices (T.slope t)) (driven : (u : ℕ) → u < T.count → T.driver u ≢ 0 → turn_price slopes other u ≡ turn_price slopes prices u) where
  same_paid : (t : ℕ) → paid_by T slopes other t ≡ paid_by T slopes prices t
  unfolding paid_by
  same_paid t = omega (arith, own_slopes t, sum_same (λ u. cond (pays_turn T u t) (turn_price slopes other u) 0) (λ u. cond (pays_turn T u t) (turn_price slopes prices u) 0) T.count (λ u l. one u l (pays_turn T u t) refl))
    where
      one : (u : ℕ) → u < T.count → (b : Bool) → pays_turn T u t ≡ b → cond b (turn_price slopes other u) 0 ≡ cond b (turn_price slopes prices u) 0
      one u l true e = driven u l (Conflicts.one_driver_names T u t (pays_driver T u t e)).named
      one u l false e = refl

  same_prices : price_sum T slopes other ≡ price_sum T slopes prices
  unfolding price_sum
  same_prices =
      omega (
        arith,
        sum_same (λ k. slope_price other (k + 1)) (λ k. slope_price prices (k + 1)) slopes all_slopes,
        sum_same (λ u. cond (ltb 0 (T.driver u)) (turn_price slopes other u) 0) (λ u. cond (ltb 0 (T.driver u)) (turn_price slopes prices u) 0) T.count (λ u l. one u l (ltb 0 (T.driver u)) refl),
      )
    where
      one : (u : ℕ) → u < T.count → (b : Bool) → ltb 0 (T.driver u) ≡ b → cond b (turn_price slopes other u) 0 ≡ cond b (turn_price slopes prices u) 0
      one u l true e = driven u l (λ z. omega (arith, z, ltb-true 0 (T.driver u) e))
      one u l false e = refl

  same_priced : priced_turns T slopes other ≡ priced_turns T slopes prices
  unfolding priced_turns counts_for
  same_priced = ap (λ (paid : ℕ → ℕ). bare (with_worths T (λ t. T.worth t - paid t))) (λ j t. same_paid t j)

  pub same_limit : (n : ℕ) → limit_by T n slopes other ≡ limit_by T n slopes prices
  unfolding limit_by
  same_limit n = rw (same_prices, same_priced)
