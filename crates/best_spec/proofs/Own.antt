-- The table over a groomer's own turns gives the most that they earn, and over all groomers this adds up to the best worth. Assumes nothing.
use mathlib.Core.Path.{◌≡◌, refl, sym, ap, ◌∙◌}
use mathlib.Core.Logic.{◌≢◌}
use mathlib.Core.Bool.{Bool, true, false, cond}
use mathlib.Core.List.{List, [], ◌∷◌, ◌++◌}
use Prim.Native.Nat.{ℕ, zero, suc, ◌+◌, ◌≤◌, ◌<◌}
use native.Mathlib.Omega.{arith}
use native.Mathlib.Decide.{dec_lt, ℕ_discrete}
use native.Mathlib.Numerals.{add-one}
use lib.Dec.{leb, eqb}
use borrow.Author.Tests.{leb-true, le-leb, eqb-true, eq-eqb, ne_eqb}
use Rattle.lists.proofs.Keeping.{keep_every, keep_holds, keep_all, keep_none, keep_sum}
use Rattle.lists.specs.Lists.{sum_over, below, All, keep}
use Rattle.lists.proofs.Bools.{not_both, fails}
use Rattle.lists.proofs.Sums.{all_map}
use Rattle.model.specs.Turns.{Turns, PositiveLengths, NoDrivers}
use Rattle.model.specs.Choice.{has, chosen}
use Rattle.model.specs.Feasible.{worth_of, OneTurnASlope}
use Rattle.model.proofs.Bound.{apart_set}
use Rattle.best_spec.specs.Table.{turn_order, Best, best_over, best_worth}
use Rattle.best_spec.specs.Groomers.{own_turns, groomer_worth, groomers_worth, OwnSet, MostOfGroomer}
use Rattle.best_spec.proofs.Members.{among_all, set_choice, set_from, set_earns}
use Rattle.best_spec.proofs.Ordering.{Ordered, empty, first, order_ordered, order_range, order_sum}
use Rattle.best_spec.proofs.Tables.{best_none, best_earns, best_every, leads_groomer, apart_among, best_feasible, taking_best}
use Rattle.best_spec.proofs.Groomers.{groomers_add}

module _ (T : Turns) where
  keep_ordered : (p : ℕ → Bool) {ts : List ℕ} → Ordered T ts → Ordered T (keep p ts)
  unfolding keep
  keep_ordered p empty = empty
  keep_ordered p (first {t = t} {ts = ts} h o) = go (p t) (keep_ordered p o)
    where
      go : (b : Bool) → Ordered T (keep p ts) → Ordered T (cond b (t ∷ keep p ts) (keep p ts))
      go true ih = first (keep_every p h) ih
      go false ih = ih

  -- ---- the most of a groomer's own turns

  -- t is groomer g's
  abbrev is_own : ℕ → ℕ → Bool
  is_own g t = eqb (T.groomer t) g

  module _ (lengths : PositiveLengths T) (free : NoDrivers T) (single : OneTurnASlope T) (g : ℕ) where
    own_range : All (λ t. t < T.count) (own_turns T g)
    unfolding own_turns
    own_range = keep_every (is_own g) (order_range T)

    own_ordered : Ordered T (own_turns T g)
    unfolding own_turns
    own_ordered = keep_ordered (is_own g) (order_ordered T)

    own_groomer : All (λ t. T.groomer t ≡ g) (own_turns T g)
    unfolding own_turns
    own_groomer = all_map (λ t e. eqb-true (T.groomer t) g e) (keep_holds (is_own g) (turn_order T))

    own_most : (R : List ℕ) → OwnSet T g R → worth_of T R ≤ groomer_worth T g
    unfolding groomer_worth own_turns chosen
    own_most R o =
        let S = set_choice T.count R in
        let f : ℕ → ℕ = λ t. cond (has S t) (T.worth t) 0 in
        let most = taking_best T lengths free single (has S) (λ x y hx hy d p q. apart_among T (apart_set T lengths o.feasible) x y (set_from T.count R x p) (set_from T.count R y q) d) (own_turns T g) (own_ordered, own_range) in
        let earned = set_earns T.count R T.worth o.feasible.numbers o.feasible.once in
        omega (arith, most, earned, order_sum T f, keep_sum (is_own g) f (λ t e. nothing t e (has S t) refl) (turn_order T))
      where
        nothing : (t : ℕ) → is_own g t ≡ false → (b : Bool) → has (set_choice T.count R) t ≡ b → cond (has (set_choice T.count R) t) (T.worth t) 0 ≡ 0
        nothing t e true h = absurd (not_both (eq-eqb (T.groomer t) g (among_all t o.own (set_from T.count R t h))) e)
        nothing t e false h = rw h

    -- without drivers and with one turn a slope
    pub groomer_most : MostOfGroomer T g (groomer_worth T g)
    unfolding groomer_worth
    groomer_most =
        let R = (best_over T (own_turns T g)).turns in
        record {
          attained = (R, record { feasible = (best_feasible T lengths free single (own_turns T g) own_ordered own_range).0; own = best_every T (own_turns T g) own_groomer }, best_earns T (own_turns T g));
          greatest = own_most;
        }

  -- ---- all groomers

  -- the turns of groomers up to g
  abbrev up_to : ℕ → List ℕ → List ℕ
  up_to g ts = keep (λ t. leb (T.groomer t) g) ts

  -- those of the next groomer stand after them
  next_groomer : (g : ℕ) {ts : List ℕ} → Ordered T ts → up_to (suc g) ts ≡ up_to g ts ++ keep (is_own (suc g)) ts
  unfolding keep
  next_groomer g empty = refl
  next_groomer g (first {t = t} {ts = ts} h o) = go (dec_lt (T.groomer t) (suc g)) (ℕ_discrete (T.groomer t) (suc g)) (next_groomer g o)
    where
      none_up_to : T.groomer t ≡ suc g → up_to g ts ≡ []
      none_up_to e = keep_none (λ u. leb (T.groomer u) g) (all_map (λ u b. fails (leb (T.groomer u) g) (λ q. omega (arith, leb-true (T.groomer u) g q, leads_groomer T t u b.leads))) h)

      go : Dec (T.groomer t < suc g) → Dec (T.groomer t ≡ suc g) → up_to (suc g) ts ≡ up_to g ts ++ keep (is_own (suc g)) ts → up_to (suc g) (t ∷ ts) ≡ up_to g (t ∷ ts) ++ keep (is_own (suc g)) (t ∷ ts)
      go (yes l) d ih = rw (le-leb (T.groomer t) (suc g) (omega arith), le-leb (T.groomer t) g (omega arith), ne_eqb (T.groomer t) (suc g) (λ e. omega arith)) (ap (λ (us : List ℕ). t ∷ us) ih)
      go (no l) (yes e) ih =
          rw (le-leb (T.groomer t) (suc g) (omega arith), fails (leb (T.groomer t) g) (λ q. omega (arith, leb-true (T.groomer t) g q)), eq-eqb (T.groomer t) (suc g) e, none_up_to e)
          (ap (λ (us : List ℕ). t ∷ us) (rw (none_up_to e) at ih))
      go (no l) (no e) ih =
          rw (fails (leb (T.groomer t) (suc g)) (λ q. omega (arith, leb-true (T.groomer t) (suc g) q)), fails (leb (T.groomer t) g) (λ q. omega (arith, leb-true (T.groomer t) g q)), ne_eqb (T.groomer t) (suc g) e) ih

  module _ (n : ℕ) (numbers : (t : ℕ) → t < T.count → (1 ≤ T.groomer t) × (T.groomer t ≤ n)) where
    others : (g : ℕ) → All (λ x. All (λ y. T.groomer x ≢ T.groomer y) (own_turns T (suc g))) (up_to g (turn_order T))
    unfolding own_turns
    others g =
        all_map
        (λ x l. all_map (λ y e d. omega (arith, leb-true (T.groomer x) g l, eqb-true (T.groomer y) (suc g) e)) (keep_holds (is_own (suc g)) (turn_order T)))
        (keep_holds (λ t. leb (T.groomer t) g) (turn_order T))

    next_worth : (g : ℕ) → (best_over T (up_to (suc g) (turn_order T))).worth ≡ (best_over T (up_to g (turn_order T))).worth + groomer_worth T (suc g)
    unfolding groomer_worth own_turns
    next_worth g =
        ap (λ (ts : List ℕ). (best_over T ts).worth) (next_groomer g (order_ordered T))
        ∙ ap (λ (b : Best). b.worth) (groomers_add T (keep (is_own (suc g)) (turn_order T)) (up_to g (turn_order T)) (others g))

    up_to_sum : (g : ℕ) → (best_over T (up_to g (turn_order T))).worth ≡ sum_over (λ k. groomer_worth T (k + 1)) (below g)
    up_to_sum zero =
        ap (λ (ts : List ℕ). (best_over T ts).worth)
        (keep_none (λ t. leb (T.groomer t) 0) (all_map (λ t l. fails (leb (T.groomer t) 0) (λ q. omega (arith, leb-true (T.groomer t) 0 q, (numbers t l).0))) (order_range T)))
        ∙ ap (λ (b : Best). b.worth) (best_none T)
    up_to_sum (suc g) = let e : groomer_worth T (g + 1) ≡ groomer_worth T (suc g) = ap (groomer_worth T) (add-one g) in omega (arith, up_to_sum g, next_worth g, e)

    -- the best worth is the sum over the groomers
    pub groomers_sum : best_worth T ≡ groomers_worth T n
    unfolding best_worth groomers_worth
    groomers_sum = sym (ap (λ (ts : List ℕ). (best_over T ts).worth) (keep_all (λ t. leb (T.groomer t) n) (all_map (λ t l. le-leb (T.groomer t) n (numbers t l).1) (order_range T)))) ∙ up_to_sum n
