-- The ceiling: the count of groups is the fewest in words, and no feasible set is worth more than the amounts so counted (5.2.1, 5.2.4: the groups are those of the bound; fewer are enough where fewer hold what a step touches). Assumes nothing.
use mathlib.Core.Path.{◌≡◌, refl}
use mathlib.Core.Logic.{◌⊎◌, inl, inr}
use mathlib.Core.List.{List, [], ◌∷◌}
use mathlib.Core.Bool.{Bool, true, false, not, cond, ◌&&◌, ◌||◌}
use Prim.Native.Nat.{ℕ, ◌+◌, ◌*◌, ◌≤◌, ◌<◌}
use native.Mathlib.Omega.{arith}
use native.Mathlib.Nat.{mul-le-mul_right}
use lib.Dec.{eqb}
use lib.IntN.{ℤ}
use lib.ListN.{length}
use borrow.Author.Tests.{eq-eqb, not-false}
use Rattle.lists.specs.Lists.{sum_over, All}
use Rattle.model.specs.Turns.{Turns, PositiveLengths, NoDrivers, by_slope, by_groomer, by_driver, conflict}
use Rattle.model.specs.Steps.{Step, touches, taken, initial, after_step, after_steps, total, tally}
use Rattle.model.specs.Rules.{Right, Each, done, step}
use Rattle.model.specs.Feasible.{Feasible, worth_of, OneTurnASlope}
use Rattle.model.specs.Ceiling.{Groups, groups_of, group_count, in_groups, hold_all, fewest_groups, step_cost, ceiling, HoldAll, Fewest}
use Rattle.lists.proofs.Bools.{or_cases, or_1, or_2, not_both, every_at, every_of, second_fails, not_two}
use Rattle.model.proofs.Account.{each_map}
use Rattle.model.proofs.Groups.{Apart, held, joined, joined_all, Clique, Cliques}
use Rattle.model.proofs.Bound.{slope_group, groomer_group, driver_group, by_groups, bound_cost, total_times, apart_set}
use Rattle.model.proofs.Conflicts
use Rattle.model.proofs.Residuals
use Rattle.model.proofs.Residuals.{Closed, RightSteps}

-- ---- the test of holding all, and the words

module _ (T : Turns) (s : List ℤ) (j : ℕ) where
  pub holds_all : (G : Groups) → hold_all T s j G ≡ true → HoldAll T s j G
  unfolding hold_all
  holds_all G e t l h = not-false (in_groups T G j t) (second_fails (touches T s j t) (not (in_groups T G j t)) (every_at (λ t. not (touches T s j t && not (in_groups T G j t))) T.count e t l) h)

  pub all_held : (G : Groups) → HoldAll T s j G → hold_all T s j G ≡ true
  unfolding hold_all
  all_held G h = every_of (λ t. not (touches T s j t && not (in_groups T G j t))) T.count (λ t l. not_two (touches T s j t) (not (in_groups T G j t)) (λ e. rw (h t l e)))

-- ---- the fewest

-- what a test of several groups decides: one of them holds all, or none does
or3 : (a b c : Bool) → (a || (b || c)) ≡ true → (a ≡ true) ⊎ ((b ≡ true) ⊎ (c ≡ true))
or3 true b c e = inl refl
or3 false true c e = inr (inl refl)
or3 false false c e = inr (inr e)

module _ (T : Turns) (s : List ℤ) (x : Step) (q : Right T s x) where
  abbrev j : ℕ
  j = x.turn

  -- all three hold whatever a step touches
  three_hold : HoldAll T s j (groups_of true true true)
  unfolding in_groups
  three_hold t l e = go (Conflicts.ways T j t (Residuals.touched_conflict T s x j t e))
    where
      go : Conflicts.Ways T j t → ((true && (eqb j t || by_slope T j t)) || ((true && (eqb j t || by_groomer T j t)) || (true && (eqb j t || by_driver T j t)))) ≡ true
      go (Conflicts.slopes h) = or_1 (eqb j t || by_slope T j t) ((eqb j t || by_groomer T j t) || (eqb j t || by_driver T j t)) (or_2 (eqb j t) (by_slope T j t) h)
      go (Conflicts.groomers h) = or_2 (eqb j t || by_slope T j t) ((eqb j t || by_groomer T j t) || (eqb j t || by_driver T j t)) (or_1 (eqb j t || by_groomer T j t) (eqb j t || by_driver T j t) (or_2 (eqb j t) (by_groomer T j t) h))
      go (Conflicts.drivers h) = or_2 (eqb j t || by_slope T j t) ((eqb j t || by_groomer T j t) || (eqb j t || by_driver T j t)) (or_2 (eqb j t || by_groomer T j t) (eqb j t || by_driver T j t) (or_2 (eqb j t) (by_driver T j t) h))

  -- the step touches J, so that no group is too few
  none_holds : HoldAll T s j (groups_of false false false) → ⊥
  unfolding in_groups
  none_holds h = not_both (h j q.inside (Residuals.touched_of T s x j j q.live (Conflicts.conflict_refl T j))) refl

  abbrev one : Bool
  one = hold_all T s j (groups_of true false false) || (hold_all T s j (groups_of false true false) || hold_all T s j (groups_of false false true))

  abbrev two : Bool
  two = hold_all T s j (groups_of true true false) || (hold_all T s j (groups_of true false true) || hold_all T s j (groups_of false true true))

  -- what holds all passes the test of its size
  single : (a b c : Bool) → group_count (groups_of a b c) ≡ 1 → HoldAll T s j (groups_of a b c) → one ≡ true
  unfolding group_count
  single true false false e h = or_1 (hold_all T s j (groups_of true false false)) (hold_all T s j (groups_of false true false) || hold_all T s j (groups_of false false true)) (all_held T s j (groups_of true false false) h)
  single false true false e h = or_2 (hold_all T s j (groups_of true false false)) (hold_all T s j (groups_of false true false) || hold_all T s j (groups_of false false true)) (or_1 (hold_all T s j (groups_of false true false)) (hold_all T s j (groups_of false false true)) (all_held T s j (groups_of false true false) h))
  single false false true e h = or_2 (hold_all T s j (groups_of true false false)) (hold_all T s j (groups_of false true false) || hold_all T s j (groups_of false false true)) (or_2 (hold_all T s j (groups_of false true false)) (hold_all T s j (groups_of false false true)) (all_held T s j (groups_of false false true) h))
  single true true c e h = absurd (omega arith)
  single true false true e h = absurd (omega arith)
  single false true true e h = absurd (omega arith)
  single false false false e h = absurd (omega arith)

  double : (a b c : Bool) → group_count (groups_of a b c) ≡ 2 → HoldAll T s j (groups_of a b c) → two ≡ true
  unfolding group_count
  double true true false e h = or_1 (hold_all T s j (groups_of true true false)) (hold_all T s j (groups_of true false true) || hold_all T s j (groups_of false true true)) (all_held T s j (groups_of true true false) h)
  double true false true e h = or_2 (hold_all T s j (groups_of true true false)) (hold_all T s j (groups_of true false true) || hold_all T s j (groups_of false true true)) (or_1 (hold_all T s j (groups_of true false true)) (hold_all T s j (groups_of false true true)) (all_held T s j (groups_of true false true) h))
  double false true true e h = or_2 (hold_all T s j (groups_of true true false)) (hold_all T s j (groups_of true false true) || hold_all T s j (groups_of false true true)) (or_2 (hold_all T s j (groups_of true false true)) (hold_all T s j (groups_of false true true)) (all_held T s j (groups_of false true true) h))
  double true true true e h = absurd (omega arith)
  double true false false e h = absurd (omega arith)
  double false true false e h = absurd (omega arith)
  double false false c e h = absurd (go c e)
    where
      go : (c : Bool) → group_count (groups_of false false c) ≡ 2 → ⊥
      go true e = omega arith
      go false e = omega arith

  -- groups are none, one, two or all three
  sizes : (a b c : Bool) → (group_count (groups_of a b c) ≡ 1) ⊎ ((group_count (groups_of a b c) ≡ 2) ⊎ ((3 ≤ group_count (groups_of a b c)) ⊎ (groups_of a b c ≡ groups_of false false false)))
  unfolding group_count
  sizes true true true = inr (inr (inl (omega arith)))
  sizes true true false = inr (inl refl)
  sizes true false true = inr (inl refl)
  sizes true false false = inl refl
  sizes false true true = inr (inl refl)
  sizes false true false = inl refl
  sizes false false true = inl refl
  sizes false false false = inr (inr (inr refl))

  -- the count is that of groups which hold all, and no fewer do
  pub fewest_is : Fewest T s j (fewest_groups T s j)
  unfolding fewest_groups group_count
  fewest_is = go one refl two refl
    where
      fewer : (k : ℕ) → k ≤ 3 → (one ≡ true → k ≤ 1) → (two ≡ true → k ≤ 2) → (G : Groups) → HoldAll T s j G → k ≤ group_count G
      fewer k l f g G h = by (sizes G.slope G.groomer G.driver)
        where
          by : (group_count G ≡ 1) ⊎ ((group_count G ≡ 2) ⊎ ((3 ≤ group_count G) ⊎ (G ≡ groups_of false false false))) → k ≤ group_count G
          by (inl e) = omega (arith, f (single G.slope G.groomer G.driver e h), e)
          by (inr (inl e)) = omega (arith, g (double G.slope G.groomer G.driver e h), e)
          by (inr (inr (inl e))) = omega (arith, e)
          by (inr (inr (inr e))) = absurd (none_holds (rw e at h))

      made : (k : ℕ) (G : Groups) → group_count G ≡ k → hold_all T s j G ≡ true → ((H : Groups) → HoldAll T s j H → k ≤ group_count H) → Fewest T s j k
      made k G m e n = record { groups = G; many = m; enough = holds_all T s j G e; none_fewer = n }

      go : (a : Bool) → one ≡ a → (b : Bool) → two ≡ b → Fewest T s j (cond a 1 (cond b 2 3))
      go true e b f = by (or3 (hold_all T s j (groups_of true false false)) (hold_all T s j (groups_of false true false)) (hold_all T s j (groups_of false false true)) e)
        where
          rest : (G : Groups) → HoldAll T s j G → 1 ≤ group_count G
          rest = fewer 1 (omega arith) (λ p. omega arith) (λ p. omega arith)

          by : (hold_all T s j (groups_of true false false) ≡ true) ⊎ ((hold_all T s j (groups_of false true false) ≡ true) ⊎ (hold_all T s j (groups_of false false true) ≡ true)) → Fewest T s j 1
          by (inl h) = made 1 (groups_of true false false) refl h rest
          by (inr (inl h)) = made 1 (groups_of false true false) refl h rest
          by (inr (inr h)) = made 1 (groups_of false false true) refl h rest
      go false e true f = by (or3 (hold_all T s j (groups_of true true false)) (hold_all T s j (groups_of true false true)) (hold_all T s j (groups_of false true true)) f)
        where
          rest : (G : Groups) → HoldAll T s j G → 2 ≤ group_count G
          rest = fewer 2 (omega arith) (λ p. absurd (not_both p e)) (λ p. omega arith)

          by : (hold_all T s j (groups_of true true false) ≡ true) ⊎ ((hold_all T s j (groups_of true false true) ≡ true) ⊎ (hold_all T s j (groups_of false true true) ≡ true)) → Fewest T s j 2
          by (inl h) = made 2 (groups_of true true false) refl h rest
          by (inr (inl h)) = made 2 (groups_of true false true) refl h rest
          by (inr (inr h)) = made 2 (groups_of false true true) refl h rest
      go false e false f = made 3 (groups_of true true true) refl (all_held T s j (groups_of true true true) three_hold) (fewer 3 (omega arith) (λ p. absurd (not_both p e)) (λ p. absurd (not_both p f)))

-- ---- the groups taken, as a list

abbrev taking : Bool → (ℕ → Bool) → List (ℕ → Bool) → List (ℕ → Bool)
taking b G Gs = cond b (G ∷ Gs) Gs

taking_length : (b : Bool) (G : ℕ → Bool) (Gs : List (ℕ → Bool)) → length (taking b G Gs) ≡ cond b 1 0 + length Gs
taking_length true G Gs = omega arith
taking_length false G Gs = omega arith

taking_held : (b : Bool) (G : ℕ → Bool) (Gs : List (ℕ → Bool)) (j t : ℕ) (rest : Bool) → (rest ≡ true → held (joined_all j Gs) t ≡ true) →
    ((b && (eqb j t || G t)) || rest) ≡ true → held (joined_all j (taking b G Gs)) t ≡ true
unfolding held joined
taking_held true G Gs j t rest h e = go (or_cases (eqb j t || G t) rest e)
  where
    go : ((eqb j t || G t) ≡ true) ⊎ (rest ≡ true) → ((eqb j t || G t) || held (joined_all j Gs) t) ≡ true
    go (inl p) = or_1 (eqb j t || G t) (held (joined_all j Gs) t) p
    go (inr p) = or_2 (eqb j t || G t) (held (joined_all j Gs) t) (h p)
taking_held false G Gs j t rest h e = h e

taking_cliques : (P : ℕ → Type 0) (c : ℕ → ℕ → Bool) (p : ℕ → Bool) (b : Bool) (G : ℕ → Bool) (Gs : List (ℕ → Bool)) →
    Clique P c (λ t. p t && G t) → Cliques P c p Gs → Cliques P c p (taking b G Gs)
taking_cliques P c p true G Gs k ks = (k, ks)
taking_cliques P c p false G Gs k ks = ks

module _ (T : Turns) (G : Groups) (j : ℕ) where
  abbrev taken_groups : List (ℕ → Bool)
  taken_groups = taking G.slope (by_slope T j) (taking G.groomer (by_groomer T j) (taking G.driver (by_driver T j) []))

  groups_length : length taken_groups ≡ group_count G
  unfolding group_count
  groups_length =
      omega (
        arith,
        taking_length G.slope (by_slope T j) (taking G.groomer (by_groomer T j) (taking G.driver (by_driver T j) [])),
        taking_length G.groomer (by_groomer T j) (taking G.driver (by_driver T j) []),
        taking_length G.driver (by_driver T j) [],
      )

  groups_hold : (t : ℕ) → in_groups T G j t ≡ true → held (joined_all j taken_groups) t ≡ true
  unfolding in_groups
  groups_hold t =
      taking_held G.slope (by_slope T j) (taking G.groomer (by_groomer T j) (taking G.driver (by_driver T j) [])) j t ((G.groomer && (eqb j t || by_groomer T j t)) || (G.driver && (eqb j t || by_driver T j t)))
      (taking_held G.groomer (by_groomer T j) (taking G.driver (by_driver T j) []) j t (G.driver && (eqb j t || by_driver T j t)) last)
    where
      last : (G.driver && (eqb j t || by_driver T j t)) ≡ true → held (joined_all j (taking G.driver (by_driver T j) [])) t ≡ true
      last e = taking_held G.driver (by_driver T j) [] j t false (λ f. absurd (not_both f refl)) (or_1 (G.driver && (eqb j t || by_driver T j t)) false e)

-- ---- the bound

-- what a right step takes from a set in which no two conflict is at most what it counts for
cost_covers : (T : Turns) (R : List ℕ) → All (λ t. t < T.count) R → Apart (conflict T) R → (s : List ℤ) (x : Step) → Right T s x → sum_over (taken T s x) R ≤ step_cost T s x
unfolding step_cost
cost_covers T R range apart s x q = rw (← F.many, ← groups_length T F.groups x.turn) (by_groups T R range apart s x Gs (λ t l e. groups_hold T F.groups x.turn t (F.enough t l e)) cliques)
  where
    F : Fewest T s x.turn (fewest_groups T s x.turn)
    F = fewest_is T s x q

    Gs : List (ℕ → Bool)
    Gs = taken_groups T F.groups x.turn

    cliques : Cliques (λ t. t < T.count) (conflict T) (touches T s x.turn) Gs
    cliques =
        taking_cliques (λ t. t < T.count) (conflict T) (touches T s x.turn) F.groups.slope (by_slope T x.turn) (taking F.groups.groomer (by_groomer T x.turn) (taking F.groups.driver (by_driver T x.turn) [])) (slope_group T s x)
        (taking_cliques (λ t. t < T.count) (conflict T) (touches T s x.turn) F.groups.groomer (by_groomer T x.turn) (taking F.groups.driver (by_driver T x.turn) []) (groomer_group T s x q)
        (taking_cliques (λ t. t < T.count) (conflict T) (touches T s x.turn) F.groups.driver (by_driver T x.turn) [] (driver_group T s x q) tt))

-- no feasible set is worth more than the ceiling of right steps that leave no turn open
pub bound_ceiling : (T : Turns) → PositiveLengths T → {R : List ℕ} → Feasible T R → {xs : List Step} → RightSteps T (initial T) xs → Closed T (after_steps T (initial T) xs) → worth_of T R ≤ ceiling T xs
unfolding ceiling
bound_ceiling T lengths {R} r {xs} right closed = bound_cost T R r.numbers (apart_set T lengths r) (step_cost T) (cost_covers T R r.numbers (apart_set T lengths r)) right closed

-- ---- between the tally and three times the tally

total_mono : {State Step : Type 0} (next : State → Step → State) (cost dear : State → Step → ℕ) {s : State} {xs : List Step} → Each next (λ s x. cost s x ≤ dear s x) s xs → total next cost s xs ≤ total next dear s xs
total_mono next cost dear done = omega arith
total_mono next cost dear (step p ps) = omega (arith, p, total_mono next cost dear ps)

module _ (T : Turns) {xs : List Step} (right : RightSteps T (initial T) xs) where
  -- at least k times the tally, where each right step needs k groups or more
  ceiling_from : (k : ℕ) → ((s : List ℤ) (x : Step) → Right T s x → k ≤ fewest_groups T s x.turn) → k * tally xs ≤ ceiling T xs
  unfolding ceiling step_cost
  ceiling_from k h = omega (arith, total_times T k (initial T) xs, total_mono (after_step T) (λ s x. k * x.amount) (step_cost T) (each_map (λ s x q. mul-le-mul_right x.amount (h s x q)) right))

  -- at most k times, where none needs more
  ceiling_to : (k : ℕ) → ((s : List ℤ) (x : Step) → Right T s x → fewest_groups T s x.turn ≤ k) → ceiling T xs ≤ k * tally xs
  unfolding ceiling step_cost
  ceiling_to k h = omega (arith, total_times T k (initial T) xs, total_mono (after_step T) (step_cost T) (λ s x. k * x.amount) (each_map (λ s x q. mul-le-mul_right x.amount (h s x q)) right))

  pub ceiling_tally : tally xs ≤ ceiling T xs
  ceiling_tally = omega (arith, ceiling_from 1 some)
    where
      some : (s : List ℤ) (x : Step) → Right T s x → 1 ≤ fewest_groups T s x.turn
      some s x q = omega (arith, least (fewest_is T s x q).groups (fewest_is T s x q).enough, (fewest_is T s x q).many)
        where
          least : (G : Groups) → HoldAll T s x.turn G → 1 ≤ group_count G
          least G h = go (sizes T s x q G.slope G.groomer G.driver)
            where
              go : (group_count G ≡ 1) ⊎ ((group_count G ≡ 2) ⊎ ((3 ≤ group_count G) ⊎ (G ≡ groups_of false false false))) → 1 ≤ group_count G
              go (inl e) = omega (arith, e)
              go (inr (inl e)) = omega (arith, e)
              go (inr (inr (inl e))) = omega (arith, e)
              go (inr (inr (inr e))) = absurd (none_holds T s x q (rw e at h))

  pub ceiling_thrice : ceiling T xs ≤ 3 * tally xs
  unfolding group_count
  ceiling_thrice = ceiling_to 3 (λ s x q. (fewest_is T s x q).none_fewer (groups_of true true true) (three_hold T s x q))

  module _ (free : NoDrivers T) where
    -- without drivers, slope and groomer hold all
    pub ceiling_twice : ceiling T xs ≤ 2 * tally xs
    unfolding group_count in_groups
    ceiling_twice = ceiling_to 2 (λ s x q. (fewest_is T s x q).none_fewer (groups_of true true false) (λ t l e. go x q t (Conflicts.ways T x.turn t (Residuals.touched_conflict T s x x.turn t e))))
      where
        go : {s : List ℤ} (x : Step) → Right T s x → (t : ℕ) → Conflicts.Ways T x.turn t → ((eqb x.turn t || by_slope T x.turn t) || ((eqb x.turn t || by_groomer T x.turn t) || false)) ≡ true
        go x q t (Conflicts.slopes h) = or_1 (eqb x.turn t || by_slope T x.turn t) ((eqb x.turn t || by_groomer T x.turn t) || false) (or_2 (eqb x.turn t) (by_slope T x.turn t) h)
        go x q t (Conflicts.groomers h) = or_2 (eqb x.turn t || by_slope T x.turn t) ((eqb x.turn t || by_groomer T x.turn t) || false) (or_1 (eqb x.turn t || by_groomer T x.turn t) false (or_2 (eqb x.turn t) (by_groomer T x.turn t) h))
        go x q t (Conflicts.drivers h) = absurd ((Conflicts.driver_is T x.turn t h).0.named (free x.turn q.inside))

    -- and where no slope has two turns, groomer alone
    pub ceiling_once : OneTurnASlope T → ceiling T xs ≡ tally xs
    unfolding group_count in_groups
    ceiling_once single = omega (arith, ceiling_tally, ceiling_to 1 (λ s x q. (fewest_is T s x q).none_fewer (groups_of false true false) (λ t l e. go x q t l (Conflicts.ways T x.turn t (Residuals.touched_conflict T s x x.turn t e)))))
      where
        go : {s : List ℤ} (x : Step) → Right T s x → (t : ℕ) → t < T.count → Conflicts.Ways T x.turn t → ((eqb x.turn t || by_groomer T x.turn t) || false) ≡ true
        go x q t l (Conflicts.slopes h) = or_1 (eqb x.turn t || by_groomer T x.turn t) false (or_1 (eqb x.turn t) (by_groomer T x.turn t) (eq-eqb x.turn t (single x.turn t q.inside l (Conflicts.slope_is T x.turn t h))))
        go x q t l (Conflicts.groomers h) = or_1 (eqb x.turn t || by_groomer T x.turn t) false (or_2 (eqb x.turn t) (by_groomer T x.turn t) h)
        go x q t l (Conflicts.drivers h) = absurd ((Conflicts.driver_is T x.turn t h).0.named (free x.turn q.inside))
