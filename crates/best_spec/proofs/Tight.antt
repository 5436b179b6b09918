-- A set that earns as much as the planner's tally meets every step: of the turns that a step touches it has one, of which as much is left as the step's amount. So wherever it leaves out a turn of the planner's it has a later one. Assumes nothing.
use mathlib.Core.Path.{◌≡◌, refl, sym}
use mathlib.Core.Logic.{◌≢◌, ◌⊎◌, inl, inr}
use mathlib.Core.Bool.{Bool, true, false, cond, ◌&&◌, ◌||◌}
use mathlib.Core.List.{List, [], ◌∷◌, map}
use Prim.Native.Nat.{ℕ, ◌+◌, ◌-◌, ◌≤◌, ◌<◌}
use native.Mathlib.Omega.{arith}
use native.Mathlib.Decide.{dec_lt, ℕ_discrete}
use lib.Dec.{leb, eqb}
use lib.IntN.{ℤ}
use lib.ListN.{length, set, get_or-eq_default}
use borrow.Author.Tests.{leb-true, leb-false, eq-eqb}
use Rattle.lists.specs.Lists.{sum_over, All}
use Rattle.lists.proofs.Bools.{and_1, and_2, or_1, or_2, not_both, fails}
use Rattle.lists.proofs.Sums.{sum_add, sum_mono, sum_zero, all_of, all_map}
use Rattle.model.specs.Turns.{Turns, NoDrivers, conflict}
use Rattle.model.specs.Steps.{Step, left, initial, touches, taken, after_step, after_steps, final, tally}
use Rattle.model.specs.Rules.{Right, done, step}
use Rattle.model.specs.Pick.{pick, next_step, plan, steps, Precedes, earlier, richer, lower}
use Rattle.model.specs.Choice.{has, chosen, fits, choose_each, back, fill, go_back, choice}
use Rattle.model.specs.Feasible.{OneTurnASlope}
use Rattle.model.proofs.Groups.{Apart, Clique, share, one_of}
use Rattle.model.proofs.Bound.{single_group}
use Rattle.model.proofs.Choices.{put_from, none_chosen, choose_cases, fill_keeps, chosen_mono, chosen_put}
use Rattle.model.proofs.Filled.{go_back_length, filled_earns}
use Rattle.model.proofs.Promised.{planned_length, choice_apart}
use Rattle.model.proofs.Picks.{pick_picked, next_step_right}
use Rattle.model.proofs.Planned.{plan_ind, planned_right, steps_closed}
use Rattle.model.proofs.Conflicts
use Rattle.model.proofs.Residuals
use Rattle.model.proofs.Residuals.{Closed, RightSteps}
use Rattle.best_spec.specs.Table.{is_among, Later, ends_later, higher}
use Rattle.best_spec.proofs.Members.{some_or_none, among_all, among_cons}

-- the turns of steps
abbrev turns_in : List Step → List ℕ
turns_in xs = map (λ (x : Step). x.turn) xs

-- what going back chooses are turns of steps
back_from : (fits : List Bool → ℕ → Bool) (n : ℕ) (js : List ℕ) (x : ℕ) → has (back fits n js) x ≡ true → is_among js x ≡ true
unfolding back choose_each is_among
back_from fits n [] x e = absurd (none_chosen n x e)
back_from fits n (j ∷ js) x e =
    choose_cases fits (λ S. has S x ≡ true → (eqb x j || is_among js x) ≡ true) (back fits n js) j
    (λ f h. put (back_from fits n js x) (put_from (back fits n js) j x h))
    (λ f h. or_2 (eqb x j) (is_among js x) (back_from fits n js x h))
    e
  where
    put : (has (back fits n js) x ≡ true → is_among js x ≡ true) → (x ≡ j) ⊎ (has (back fits n js) x ≡ true) → (eqb x j || is_among js x) ≡ true
    put ih (inl q) = or_1 (eqb x j) (is_among js x) (eq-eqb x j q)
    put ih (inr h) = or_2 (eqb x j) (is_among js x) (ih h)

-- a chosen turn is one of the list's
pub has_within : (S : List Bool) (x : ℕ) → has S x ≡ true → x < length S
has_within S x e = go (dec_lt x (length S))
  where
    go : Dec (x < length S) → x < length S
    go (yes l) = l
    go (no l) = let past : length S ≤ x = omega arith in absurd (not_both e (get_or-eq_default S false past))

-- of two choices, one in the other, that earn as much, where every turn earns something
pub same_worth : (n : ℕ) (S U : List Bool) (f : ℕ → ℕ) → length S ≡ n → ((t : ℕ) → has S t ≡ true → has U t ≡ true) → chosen n U f ≤ chosen n S f → ((t : ℕ) → t < n → 0 < f t) →
    (x : ℕ) → x < n → has U x ≡ true → has S x ≡ true
same_worth n S U f k sub h pos x l u = go (has S x) refl
  where
    inside : (t : ℕ) → (t ≡ x) ⊎ (has S t ≡ true) → has U t ≡ true
    inside t (inl q) = rw q u
    inside t (inr q) = sub t q

    go : (b : Bool) → has S x ≡ b → has S x ≡ true
    go true e = e
    go false e = absurd (omega (arith, chosen_put n S f x l k e, chosen_mono n (set S x true) U f f (λ t m p. (inside t (put_from S x t p), omega arith)), pos x l))

-- filling keeps what going back chose, and going back earns the tally
module _ (T : Turns) where
  choice_keeps : (t : ℕ) → has (go_back T (steps T)) t ≡ true → has (choice T) t ≡ true
  unfolding choice
  choice_keeps t e = fill_keeps (fits T) T.count (go_back T (steps T)) t e

  back_earns : tally (steps T) ≤ chosen T.count (go_back T (steps T)) T.worth
  unfolding fill choose_each
  back_earns = filled_earns T 0 (planned_right T)

module _ (T : Turns) (free : NoDrivers T) (single : OneTurnASlope T) where
  -- two turns that conflict have one groomer
  one_groomer_way : (x y : ℕ) → x < T.count → y < T.count → x ≢ y → conflict T x y ≡ true → T.groomer x ≡ T.groomer y
  one_groomer_way x y hx hy d c = go (Conflicts.ways T x y c)
    where
      go : Conflicts.Ways T x y → T.groomer x ≡ T.groomer y
      go (Conflicts.slopes h) = absurd (d (single x y hx hy (Conflicts.slope_is T x y h)))
      go (Conflicts.groomers h) = (Conflicts.groomer_is T x y h).0
      go (Conflicts.drivers h) = absurd ((Conflicts.driver_is T x y h).0.named (free x hx))

  -- any two turns that a right step touches conflict
  touched_clique : (s : List ℤ) (x : Step) → Right T s x → Clique (λ t. t < T.count) (conflict T) (touches T s x.turn)
  unfolding Clique
  touched_clique s x q y z hy hz e f = go (Conflicts.ways T x.turn y (near y e)) (Conflicts.ways T x.turn z (near z f))
    where
      near : (t : ℕ) → touches T s x.turn t ≡ true → conflict T x.turn t ≡ true
      near t h = Residuals.touched_conflict T s x x.turn t h

      after : (t : ℕ) → t < T.count → touches T s x.turn t ≡ true → T.groomer x.turn ≡ T.groomer t → T.end x.turn ≤ T.end t
      after t l h g = q.early t l (Residuals.touched_open T s x x.turn t h) g

      same : (t : ℕ) → t < T.count → T.slope x.turn ≡ T.slope t → x.turn ≡ t
      same t l g = single x.turn t q.inside l g

      go : Conflicts.Ways T x.turn y → Conflicts.Ways T x.turn z → conflict T y z ≡ true
      go (Conflicts.slopes h) w = rw (same y hy (Conflicts.slope_is T x.turn y h)) at (near z f)
      go (Conflicts.groomers h) (Conflicts.slopes k) = rw (same z hz (Conflicts.slope_is T x.turn z k)) at (Conflicts.conflict_sym T x.turn y (near y e))
      go (Conflicts.groomers h) (Conflicts.groomers k) =
          Conflicts.groomer_conflict T x.turn y z h k (after y hy e (Conflicts.groomer_is T x.turn y h).0) (after z hz f (Conflicts.groomer_is T x.turn z k).0)
      go (Conflicts.groomers h) (Conflicts.drivers k) = absurd ((Conflicts.driver_is T x.turn z k).0.named (free x.turn q.inside))
      go (Conflicts.drivers h) w = absurd ((Conflicts.driver_is T x.turn y h).0.named (free x.turn q.inside))

  module _ {R : List ℕ} (range : All (λ t. t < T.count) R) (apart : Apart (conflict T) R) where
    -- what is left of the set is at most what the steps take
    bound_run : {s : List ℤ} {xs : List Step} → RightSteps T s xs → Closed T (final (after_step T) s xs) → sum_over (left s) R ≤ tally xs
    unfolding tally
    bound_run {s} done c = omega (arith, sum_zero (left s) (all_map (λ t l. Residuals.closed_left s t (c t l)) range))
    bound_run (step {s = s} {x = x} q qs) c =
        omega (
          arith,
          sum_mono (left s) (λ t. taken T s x t + left (after_step T s x) t) (all_of (λ t. omega (arith, Residuals.left_after T s x t)) R),
          sum_add (taken T s x) (left (after_step T s x)) R,
          single_group T R range apart s x q free single,
          bound_run qs c,
        )

    -- the set has x, or a later turn that conflicts with x
    abbrev Meets : ℕ → Type 0
    Meets x = (is_among R x ≡ true) ⊎ ((y : ℕ) × (is_among R y ≡ true) × (conflict T x y ≡ true) × (x ≢ y) × Later T y x)

    meets_step : (s : List ℤ) {xs : List Step} → pick T s < T.count → RightSteps T (after_step T s (next_step T s)) xs → Closed T (final (after_step T) (after_step T s (next_step T s)) xs) →
        left s (pick T s) + tally xs ≤ sum_over (left s) R → Meets (pick T s)
    unfolding next_step taken
    meets_step s {xs} l r c h = go (some_or_none (λ t. touches T s j t && leb (left s j) (left s t)) R)
      where
        j : ℕ
        j = pick T s

        x : Step
        x = next_step T s

        right : Right T s x
        right = next_step_right T s l

        later : (y : ℕ) → y < T.count → j ≢ y → conflict T j y ≡ true → left s j ≤ left s y → Precedes T (left s) j y → Later T y j
        later y m d k e (earlier f) = ends_later (one_groomer_way j y l m d k) f
        later y m d k e (richer f g) = absurd (omega arith)
        later y m d k e (lower f g i) = higher (one_groomer_way j y l m d k) f i

        found : (y : ℕ) → is_among R y ≡ true → touches T s j y ≡ true → left s j ≤ left s y → Dec (j ≡ y) → Meets j
        found y m e f (yes q) = inl (rw q m)
        found y m e f (no d) =
            let hy : y < T.count = among_all y range m in
            let k = Residuals.touched_conflict T s x j y e in
            inr (y, m, k, d, later y hy d k f ((pick_picked T s l).earliest y hy (Residuals.touched_open T s x j y e) (λ q. d (sym q))))

        -- of every turn of the set that is touched less is left
        less : (t : ℕ) → (touches T s j t && leb (left s j) (left s t)) ≡ false → left s t ≤ share (touches T s j) (left s j - 1) t + left (after_step T s x) t
        less t e = split (touches T s j t) refl e (Residuals.left_after T s x t)
          where
            split : (b : Bool) → touches T s j t ≡ b → (b && leb (left s j) (left s t)) ≡ false → left (after_step T s x) t ≡ left s t - cond b (left s j) 0 → left s t ≤ cond b (left s j - 1) 0 + left (after_step T s x) t
            split true p q k = omega (arith, leb-false (left s j) (left s t) q)
            split false p q k = omega arith

        go : ((t : ℕ) × (is_among R t ≡ true) × ((touches T s j t && leb (left s j) (left s t)) ≡ true)) ⊎ All (λ t. (touches T s j t && leb (left s j) (left s t)) ≡ false) R → Meets j
        go (inl (y, m, e)) = found y m (and_1 (touches T s j y) (leb (left s j) (left s y)) e) (leb-true (left s j) (left s y) (and_2 (touches T s j y) (leb (left s j) (left s y)) e)) (ℕ_discrete j y)
        go (inr a) =
            absurd (omega (
              arith,
              Residuals.open_left s j right.live,
              sum_mono (left s) (λ t. share (touches T s j) (left s j - 1) t + left (after_step T s x) t) (all_map (λ t e. less t e) a),
              sum_add (share (touches T s j) (left s j - 1)) (left (after_step T s x)) R,
              one_of (λ t. t < T.count) (conflict T) (left s j - 1) (touches T s j) (touched_clique s x right) range apart,
              bound_run r c,
            ))

    meets_plan : (k : ℕ) (s : List ℤ) → RightSteps T s (plan T k s) → Closed T (final (after_step T) s (plan T k s)) → tally (plan T k s) ≤ sum_over (left s) R →
        (x : ℕ) → is_among (turns_in (plan T k s)) x ≡ true → Meets x
    unfolding tally next_step is_among
    meets_plan =
        plan_ind T (λ k s xs. RightSteps T s xs → Closed T (final (after_step T) s xs) → tally xs ≤ sum_over (left s) R → (x : ℕ) → is_among (turns_in xs) x ≡ true → Meets x)
        (λ s r c h x e. absurd (not_both e refl)) (λ k s l r c h x e. absurd (not_both e refl)) goes
      where
        goes : (k : ℕ) (s : List ℤ) → pick T s < T.count → (xs : List Step) →
            (RightSteps T (after_step T s (next_step T s)) xs → Closed T (final (after_step T) (after_step T s (next_step T s)) xs) → tally xs ≤ sum_over (left (after_step T s (next_step T s))) R →
            (x : ℕ) → is_among (turns_in xs) x ≡ true → Meets x) →
            RightSteps T s (next_step T s ∷ xs) → Closed T (final (after_step T) s (next_step T s ∷ xs)) → tally (next_step T s ∷ xs) ≤ sum_over (left s) R →
            (x : ℕ) → is_among (turns_in (next_step T s ∷ xs)) x ≡ true → Meets x
        goes k s l xs ih (step q qs) c h x e = split (among_cons x (pick T s) (turns_in xs) e)
          where
            tight : tally xs ≤ sum_over (left (after_step T s (next_step T s))) R
            tight =
                omega (
                  arith,
                  sum_mono (left s) (λ t. taken T s (next_step T s) t + left (after_step T s (next_step T s)) t) (all_of (λ t. omega (arith, Residuals.left_after T s (next_step T s) t)) R),
                  sum_add (taken T s (next_step T s)) (left (after_step T s (next_step T s))) R,
                  single_group T R range apart s (next_step T s) q free single,
                )

            split : (x ≡ pick T s) ⊎ (is_among (turns_in xs) x ≡ true) → Meets x
            split (inl p) = rw p (meets_step s l qs c h)
            split (inr m) = ih qs c tight x m

    -- a set that earns the tally has each turn that going back over the planner's steps chooses, or a later one in conflict with it
    pub meets_back : tally (steps T) ≤ sum_over T.worth R → (x : ℕ) → has (go_back T (steps T)) x ≡ true → Meets x
    unfolding go_back steps after_steps
    meets_back h x e =
        meets_plan T.count (initial T) (planned_right T) (steps_closed T)
        (omega (arith, sum_mono T.worth (left (initial T)) (all_map (λ t l. omega (arith, Residuals.initial_left T t l)) range)))
        x (back_from (fits T) T.count (turns_in (steps T)) x e)

    -- where the planner's choice earns no more than the tally, and every turn earns something: wherever the set leaves out one of the planner's turns it has a later one that the planner left out
    pub planned_leaves : ((t : ℕ) → t < T.count → 0 < T.worth t) → chosen T.count (choice T) T.worth ≤ tally (steps T) → tally (steps T) ≤ sum_over T.worth R →
        (x : ℕ) → has (choice T) x ≡ true → is_among R x ≡ false → (y : ℕ) × (is_among R y ≡ true) × (has (choice T) y ≡ false) × Later T y x
    planned_leaves pos m h x e f = go (meets_back h x (old x (within x e) e))
      where
        within : (t : ℕ) → has (choice T) t ≡ true → t < T.count
        within t k = omega (arith, has_within (choice T) t k, planned_length T)

        old : (t : ℕ) → t < T.count → has (choice T) t ≡ true → has (go_back T (steps T)) t ≡ true
        old = same_worth T.count (go_back T (steps T)) (choice T) T.worth (go_back_length T (steps T)) (choice_keeps T) (omega (arith, m, back_earns T)) pos

        go : Meets x → (y : ℕ) × (is_among R y ≡ true) × (has (choice T) y ≡ false) × Later T y x
        go (inl k) = absurd (not_both k f)
        go (inr (y, k, c, d, l)) = (y, k, fails (has (choice T) y) (λ g. not_both c (choice_apart T x y (within x e) (within y g) d e g)), l)
