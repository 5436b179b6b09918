-- No feasible set earns more than the steps account for (5.2.1 with the machines of 5.2.4; 5.2.2 where no slope has two turns), with a driver as a further machine. The source bounds the set returned; here any right steps that leave no turn open bound every feasible set. Assumes nothing.
use mathlib.Core.Path.{◌≡◌}
use mathlib.Core.List.{List, [], ◌∷◌}
use mathlib.Core.Bool.{Bool, true, ◌&&◌}
use Prim.Native.Nat.{ℕ, ◌+◌, ◌*◌, ◌≤◌, ◌<◌}
use native.Mathlib.Omega.{arith}
use lib.IntN.{ℤ}
use lib.ListN.{length, length-map}
use Rattle.lists.specs.Lists.{sum_over, All}
use Rattle.model.specs.Turns.{Turns, PositiveLengths, NoDrivers, by_slope, by_groomer, by_driver, conflict, Conflict}
use Rattle.model.specs.Steps.{Step, is_open, left, initial, touches, taken, after_step, after_steps, final, total, tally}
use Rattle.model.specs.Rules.{Right, Each}
use Rattle.model.specs.Feasible.{Feasible, worth_of, OneTurnASlope}
use Rattle.lists.proofs.Bools.{and_1, and_2}
use Rattle.lists.proofs.Sums.{sum_mono, sum_zero, all_of, all_map}
use Rattle.model.proofs.Account.{each_map, Covers, upper}
use Rattle.model.proofs.Groups.{Apart, apart_from, held, joined_all, HeldBy, is_j, in_first, in_later, held_by_held, Clique, Cliques, join_all, groups}
use Rattle.model.proofs.Conflicts
use Rattle.model.proofs.Residuals
use Rattle.model.proofs.Residuals.{Closed, RightSteps}
use Rattle.model.proofs.Planned.{Taking, conflict_taking}
use Rattle.model.proofs.Minutes

-- ---- the groups of a right step: any two turns that it touches in one of them conflict

module _ (T : Turns) (s : List ℤ) (x : Step) where
  -- any two turns of this group that are touched conflict
  abbrev pub Group : (ℕ → Bool) → Type 0
  Group G = Clique (λ t. t < T.count) (conflict T) (λ t. touches T s x.turn t && G t)

  pub slope_group : Group (by_slope T x.turn)
  unfolding Clique
  slope_group y z hy hz e f = Conflicts.slope_conflict T x.turn y z (search and_2) (search and_2)

  -- a machine that J needs: of the open turns that need it in J's minutes none ends before J, and then any two conflict (5.2.1, 5.2.4)
  machine_group : (G : ℕ → Bool) → ((t : ℕ) → t < T.count → is_open s t ≡ true → G t ≡ true → T.end x.turn ≤ T.end t) →
      ((y z : ℕ) → G y ≡ true → G z ≡ true → T.end x.turn ≤ T.end y → T.end x.turn ≤ T.end z → conflict T y z ≡ true) → Group G
  unfolding Clique
  machine_group G late k y z hy hz e f = k y z (search and_2) (search and_2) (after y hy e) (after z hz f)
    where
      after : (t : ℕ) → t < T.count → (touches T s x.turn t && G t) ≡ true → T.end x.turn ≤ T.end t
      after t l e = late t l (Residuals.touched_open T s x x.turn t (search and_1)) (search and_2)

  module _ (q : Right T s x) where
    pub groomer_group : Group (by_groomer T x.turn)
    groomer_group = machine_group (by_groomer T x.turn) (λ t l o g. q.early t l o (Conflicts.groomer_is T x.turn t g).0) (Conflicts.groomer_conflict T x.turn)

    pub driver_group : Group (by_driver T x.turn)
    driver_group = machine_group (by_driver T x.turn) (λ t l o g. q.early_driver t l o (Conflicts.driver_is T x.turn t g).0) (Conflicts.driver_conflict T x.turn)

-- a cost of k times the amount comes to k times the tally
pub total_times : (T : Turns) (k : ℕ) (s : List ℤ) (xs : List Step) → total (after_step T) (λ s x. k * x.amount) s xs ≡ k * tally xs
unfolding tally
total_times T k s [] = omega arith
total_times T k s (x ∷ xs) = omega (arith, total_times T k (after_step T s x) xs)

-- with as much besides for each step, by any rule of what a step takes
pub total_besides : (next : List ℤ → Step → List ℤ) (k c : ℕ) (s : List ℤ) (xs : List Step) → total next (λ s x. k * x.amount + c) s xs ≡ k * tally xs + c * length xs
unfolding tally
total_besides next k c s [] = omega arith
total_besides next k c s (x ∷ xs) = omega (arith, total_besides next k c (next s x) xs)

-- ---- against any set, by any rule of what a step takes

module _ (T : Turns) {next : List ℤ → Step → List ℤ} {taken : List ℤ → Step → ℕ → ℕ} (takes : Taking next taken) (R : List ℕ) (range : All (λ t. t < T.count) R) where
  -- with any cost that covers what a step takes from the set
  pub bound_taking : {P : List ℤ → Step → Type 0} (cost : List ℤ → Step → ℕ) → ((s : List ℤ) (x : Step) → P s x → sum_over (taken s x) R ≤ cost s x) →
      {xs : List Step} → Each next P (initial T) xs → Closed T (final next (initial T) xs) → sum_over T.worth R ≤ total next cost (initial T) xs
  bound_taking {P} cost h {xs} r p =
      omega (
        arith,
        sum_mono T.worth (left (initial T)) (all_map (λ t l. omega (arith, Residuals.initial_left T t l)) range),
        upper next left taken cost R (each_map covers r),
        sum_zero (left (final next (initial T) xs)) (all_map (λ t l. Residuals.closed_left (final next (initial T) xs) t (p t l)) range),
      )
    where
      covers : (s : List ℤ) (x : Step) → P s x → Covers next left taken cost R s x
      covers s x q = record { lost = all_of (λ t. omega (arith, takes.after s x t)) R; cover = h s x q }

-- ---- against a set in which no two conflict

module _ (T : Turns) (R : List ℕ) (range : All (λ t. t < T.count) R) (apart : Apart (conflict T) R) where
  -- with any cost that covers what a right step takes from the set
  pub bound_cost : (cost : List ℤ → Step → ℕ) → ((s : List ℤ) (x : Step) → Right T s x → sum_over (taken T s x) R ≤ cost s x) →
      {xs : List Step} → RightSteps T (initial T) xs → Closed T (after_steps T (initial T) xs) → sum_over T.worth R ≤ total (after_step T) cost (initial T) xs
  unfolding after_steps
  bound_cost cost h r p = bound_taking T (conflict_taking T) R range cost h r p

  -- with a cost of k times the amount
  module _ (k : ℕ) (h : (s : List ℤ) (x : Step) → Right T s x → sum_over (taken T s x) R ≤ k * x.amount) where
    pub bound_times : {xs : List Step} → RightSteps T (initial T) xs → Closed T (after_steps T (initial T) xs) → sum_over T.worth R ≤ k * tally xs
    bound_times {xs} r p = omega (arith, total_times T k (initial T) xs, bound_cost (λ s x. k * x.amount) h r p)

  -- k groups, J in each, that hold what a step touches, any two of a group in conflict: at most k times the amount
  pub by_groups : (s : List ℤ) (x : Step) (Gs : List (ℕ → Bool)) → ((t : ℕ) → t < T.count → touches T s x.turn t ≡ true → held (joined_all x.turn Gs) t ≡ true) →
      Cliques (λ t. t < T.count) (conflict T) (touches T s x.turn) Gs → sum_over (taken T s x) R ≤ length Gs * x.amount
  unfolding taken
  by_groups s x Gs h k =
      rw length-map at (groups (λ t. t < T.count) (conflict T) x.amount (joined_all j Gs) (touches T s j) h (join_all (λ t. t < T.count) (conflict T) j (touches T s j) near Gs k) range apart)
    where
      j : ℕ
      j = x.turn

      near : (t : ℕ) → touches T s j t ≡ true → (conflict T j t ≡ true) × (conflict T t j ≡ true)
      near t e = let c = Residuals.touched_conflict T s x j t e in (c, Conflicts.conflict_sym T j t c)

  module _ (s : List ℤ) (x : Step) (q : Right T s x) where
    -- groups that hold each turn that conflicts with J, by whichever way
    by_ways : (Gs : List (ℕ → Bool)) → ((t : ℕ) → t < T.count → Conflicts.Ways T x.turn t → HeldBy x.turn t Gs) →
        Cliques (λ t. t < T.count) (conflict T) (touches T s x.turn) Gs → sum_over (taken T s x) R ≤ length Gs * x.amount
    by_ways Gs h = by_groups s x Gs (λ t l e. held_by_held (h t l (Conflicts.ways T x.turn t (Residuals.touched_conflict T s x x.turn t e))))

    -- at most three of the turns touched are in the set: one of J's slope, and of each machine one that overlaps J (5.2.4)
    pub three_groups : sum_over (taken T s x) R ≤ 3 * x.amount
    three_groups = by_ways (by_slope T x.turn ∷ by_groomer T x.turn ∷ by_driver T x.turn ∷ []) go (slope_group T s x, (groomer_group T s x q, (driver_group T s x q, tt)))
      where
        go : (t : ℕ) → t < T.count → Conflicts.Ways T x.turn t → HeldBy x.turn t (by_slope T x.turn ∷ by_groomer T x.turn ∷ by_driver T x.turn ∷ [])
        go t l (Conflicts.slopes h) = in_first h
        go t l (Conflicts.groomers h) = in_later (in_first h)
        go t l (Conflicts.drivers h) = in_later (in_later (in_first h))

    alone : OneTurnASlope T → (t : ℕ) → t < T.count → by_slope T x.turn t ≡ true → x.turn ≡ t
    alone single t l h = single x.turn t q.inside l (Conflicts.slope_is T x.turn t h)

    -- at most two, where no slope has two turns: J is the only one of its slope (5.2.2)
    pub machine_groups : OneTurnASlope T → sum_over (taken T s x) R ≤ 2 * x.amount
    machine_groups single = by_ways (by_groomer T x.turn ∷ by_driver T x.turn ∷ []) go (groomer_group T s x q, (driver_group T s x q, tt))
      where
        go : (t : ℕ) → t < T.count → Conflicts.Ways T x.turn t → HeldBy x.turn t (by_groomer T x.turn ∷ by_driver T x.turn ∷ [])
        go t l (Conflicts.slopes h) = is_j (alone single t l h)
        go t l (Conflicts.groomers h) = in_first h
        go t l (Conflicts.drivers h) = in_later (in_first h)

    -- without drivers a group less
    module _ (free : NoDrivers T) where
      no_driver : (t : ℕ) → by_driver T x.turn t ≡ true → ⊥
      no_driver t h = (Conflicts.driver_is T x.turn t h).0.named (free x.turn q.inside)

      -- at most two: one of J's slope, and one that overlaps J on its groomer (5.2.1, 5.2.4)
      pub two_groups : sum_over (taken T s x) R ≤ 2 * x.amount
      two_groups = by_ways (by_slope T x.turn ∷ by_groomer T x.turn ∷ []) go (slope_group T s x, (groomer_group T s x q, tt))
        where
          go : (t : ℕ) → t < T.count → Conflicts.Ways T x.turn t → HeldBy x.turn t (by_slope T x.turn ∷ by_groomer T x.turn ∷ [])
          go t l (Conflicts.slopes h) = in_first h
          go t l (Conflicts.groomers h) = in_later (in_first h)
          go t l (Conflicts.drivers h) = absurd (no_driver t h)

      -- at most one, where no slope has two turns (5.2.2)
      pub single_group : OneTurnASlope T → sum_over (taken T s x) R ≤ 1 * x.amount
      single_group single = by_ways (by_groomer T x.turn ∷ []) go (groomer_group T s x q, tt)
        where
          go : (t : ℕ) → t < T.count → Conflicts.Ways T x.turn t → HeldBy x.turn t (by_groomer T x.turn ∷ [])
          go t l (Conflicts.slopes h) = is_j (alone single t l h)
          go t l (Conflicts.groomers h) = in_first h
          go t l (Conflicts.drivers h) = absurd (no_driver t h)

-- ---- against feasible sets

module _ (T : Turns) (lengths : PositiveLengths T) {R : List ℕ} (feasible : Feasible T R) where
  pub apart_set : Apart (conflict T) R
  apart_set = apart_from (λ t. t < T.count) (conflict T) (λ t u. Conflict T t u → ⊥) (λ t u l m h. (Minutes.no_conflict_is T lengths t u l m).1 h) feasible.numbers feasible.once feasible.apart

  module _ {xs : List Step} (right : RightSteps T (initial T) xs) (closed : Closed T (after_steps T (initial T) xs)) where
    -- any factor k, if a right step takes at most k times its amount from the set
    bound_by : (k : ℕ) → ((s : List ℤ) (x : Step) → Right T s x → sum_over (taken T s x) R ≤ k * x.amount) → worth_of T R ≤ k * tally xs
    bound_by k h = bound_times T R feasible.numbers apart_set k h right closed

    -- the factor 3 of 5.2.4, two machines: no feasible set is worth more than thrice the tally
    pub bound_thrice : worth_of T R ≤ 3 * tally xs
    bound_thrice = bound_by 3 (three_groups T R feasible.numbers apart_set)

    -- twice, where no slope has two turns
    pub bound_twice_one_turn : OneTurnASlope T → worth_of T R ≤ 2 * tally xs
    bound_twice_one_turn single = bound_by 2 (λ s x q. machine_groups T R feasible.numbers apart_set s x q single)

    -- without drivers, the factor 2 of 5.2.1 and 5.2.4, one machine: at most twice the tally
    pub bound_twice : NoDrivers T → worth_of T R ≤ 2 * tally xs
    bound_twice free = bound_by 2 (λ s x q. two_groups T R feasible.numbers apart_set s x q free)

    -- without drivers, the factor 1 of 5.2.2: at most the tally, where no slope has two turns
    pub bound_once : NoDrivers T → OneTurnASlope T → worth_of T R ≤ tally xs
    bound_once free single = omega (arith, bound_by 1 (λ s x q. single_group T R feasible.numbers apart_set s x q free single))
