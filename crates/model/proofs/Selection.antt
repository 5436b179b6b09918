-- Algorithm IS (5.2.1, with the machines of 5.2.4) makes the planner's steps and returns what going back over them chooses: some derivation does, and so does every one, in whatever order spent intervals are removed. Assumes nothing.
use mathlib.Core.Path.{◌≡◌, refl, sym, ap, ◌∙◌}
use mathlib.Core.Logic.{◌≢◌, ◌↔◌}
use mathlib.Core.List.{List, [], ◌∷◌}
use mathlib.Core.Bool.{Bool, true, false, not, cond, ◌&&◌, ◌||◌}
use Prim.Native.Nat.{ℕ, zero, suc, ◌≤◌, ◌<◌}
use native.Mathlib.Omega.{arith}
use native.Mathlib.Decide.{ℕ_discrete, dec_lt}
use lib.IntN.{ℤ, pos, ◌-ℤ◌, +ℤ_idr}
use lib.ListN.{set, replicate, get_or-replicate}
use lib.Seq.{get_or-set_same, get_or-set_other}
use Rattle.model.specs.Turns.{Turns, PositiveLengths, by_slope, by_groomer, by_driver, conflict}
use Rattle.model.specs.Steps.{Step, residual, above, part, is_open, left, initial, after_step}
use Rattle.model.specs.Choice.{has, fits, choose, fill, go_back, choice}
use Rattle.model.specs.Pick.{pick, next_step, plan, steps, Picked}
use Rattle.model.specs.Rules.{Independent, Right}
use Rattle.model.specs.IntervalSelection.{neighbour, w₁, w₂, AllPositive, EndsFirst, IS, line1, line3, line9, line11, Selects}
use Rattle.lists.proofs.Bools.{not_both, fails, up_to}
use Rattle.model.proofs.Choices.{put_keeps, choose_cases, choose_set, choose_not}
use Rattle.model.proofs.Filled.{apart_fits, put_apart, go_back_apart, go_back_length, go_back_earns, go_back_none, go_back_goes}
use Rattle.model.proofs.Picks.{precedes_same, pick_picked, picked_pick, pick_count, pick_none, next_step_right}
use Rattle.model.proofs.Planned.{opens, opens_fall, opens_some, opens_most, plan_goes, plan_stops, plan_right}
use Rattle.model.proofs.Readings.{apart_reads}
use Rattle.model.proofs.Minutes
use Rattle.model.proofs.Residuals
use Rattle.model.proofs.Residuals.{Closed, RightSteps}

-- ---- removing from a set

removed : (A : List Bool) (i : ℕ) → has (set A i false) i ≡ false
removed [] i = refl
removed (b ∷ A) zero = refl
removed (b ∷ A) (suc i) = removed A i

stays : (A : List Bool) (i t : ℕ) → has (set A i false) t ≡ true → (t ≢ i) × (has A t ≡ true)
stays A i t e = go (ℕ_discrete t i)
  where
    go : Dec (t ≡ i) → (t ≢ i) × (has A t ≡ true)
    go (yes q) = absurd (not_both (ap (has (set A i false)) (sym q) ∙ e) (removed A i))
    go (no q) = (q, sym (get_or-set_other A i t false false q) ∙ e)

-- the number of a weight that is one
pos_same : {a b : ℕ} → pos a ≡ pos b → a ≡ b
pos_same e = ap part e

-- ---- the intervals and weights of a call, and the residuals of the steps

-- the weights in A are the residuals, and what is no longer in A is not open
record Agrees (T : Turns) (A : List Bool) (w : ℕ → ℤ) (s : List ℤ) : Type 0 where
  same : (t : ℕ) → t < T.count → has A t ≡ true → w t ≡ residual s t
  gone : (t : ℕ) → t < T.count → has A t ≡ false → is_open s t ≡ false

module _ (T : Turns) where
  starts : Agrees T (replicate T.count true) (λ t. pos (T.worth t)) (initial T)
  starts =
      record {
        same = λ t l e. sym (Residuals.initial_residual T t l);
        gone = λ t l e. absurd (not_both (get_or-replicate T.count t true false l) e);
      }

  neighbour_is : (j t : ℕ) → neighbour T j t ≡ conflict T j t
  unfolding neighbour conflict
  neighbour_is j t = go (by_slope T j t) (by_groomer T j t || by_driver T j t)
    where
      go : (a b : Bool) → (a || (not a && b)) ≡ (a || b)
      go true b = refl
      go false b = refl

  module _ {A : List Bool} {w : ℕ → ℤ} {s : List ℤ} (a : Agrees T A w s) where
    member_open : (t : ℕ) → t < T.count → has A t ≡ true → is_open s t ≡ above (w t)
    unfolding is_open
    member_open t l e = ap above (sym (a.same t l e))

    member_left : (t : ℕ) → t < T.count → has A t ≡ true → part (w t) ≡ left s t
    unfolding left
    member_left t l e = ap part (a.same t l e)

    open_member : (t : ℕ) → t < T.count → is_open s t ≡ true → has A t ≡ true
    open_member t l e = go (has A t) refl
      where
        go : (b : Bool) → has A t ≡ b → b ≡ true
        go true q = refl
        go false q = absurd (not_both e (a.gone t l q))

    -- lines 2 and 3
    removing : (i : ℕ) → i < T.count → has A i ≡ true → above (w i) ≡ false → Agrees T (set A i false) w s
    removing i l e c = record { same = λ t m f. a.same t m (stays A i t f).1; gone = λ t m f. go t m f (ℕ_discrete t i) }
      where
        go : (t : ℕ) → t < T.count → has (set A i false) t ≡ false → Dec (t ≡ i) → is_open s t ≡ false
        go t m f (yes q) = rw q (member_open i l e ∙ c)
        go t m f (no q) = a.gone t m (sym (get_or-set_other A i t false false q) ∙ f)

    -- line 5 picks the planner's turn
    ends_first_picked : (j : ℕ) → AllPositive T A w → EndsFirst T A w j → Picked T s j
    ends_first_picked j h e =
        record {
          inside = e.inside;
          live = member_open j e.inside e.member ∙ h j e.inside e.member;
          earliest = λ t l o d. precedes_same T (λ I. part (w I)) j t (member_left j e.inside e.member) (member_left t l (open_member t l o)) (e.earliest t l (open_member t l o) d);
        }

    picked_ends_first : (j : ℕ) → AllPositive T A w → Picked T s j → EndsFirst T A w j
    picked_ends_first j h p =
        record {
          inside = p.inside;
          member = open_member j p.inside p.live;
          earliest = λ t l m d. precedes_same T (left s) j t (sym (member_left j p.inside (open_member j p.inside p.live))) (sym (member_left t l m)) (p.earliest t l (member_open t l m ∙ h t l m) d);
        }

    -- the weight of J is the step's amount
    weight : (x : Step) → Right T s x → w x.turn ≡ pos x.amount
    weight x q = a.same x.turn q.inside (open_member x.turn q.inside q.live) ∙ Residuals.open_residual s x.turn q.live ∙ ap pos (sym q.owed)

    -- line 6 does what the step does
    splitting : AllPositive T A w → (x : Step) → Right T s x → Agrees T A (w₂ T w x.turn) (after_step T s x)
    unfolding w₂ w₁
    splitting h x q =
        record {
          same = λ t l e. rw (Residuals.residual_step T s x t, Residuals.touches_open T s x x.turn t (member_open t l e ∙ h t l e), neighbour_is x.turn t, a.same t l e, weight x q) (go (residual s t) (conflict T x.turn t));
          gone = λ t l e. fails (is_open (after_step T s x) t) (λ o. omega (arith, Residuals.open_left (after_step T s x) t o, Residuals.left_after T s x t, Residuals.closed_left s t (a.gone t l e)));
        }
      where
        go : (z : ℤ) (c : Bool) → z -ℤ cond c (pos x.amount) (pos 0) ≡ cond c (z -ℤ pos x.amount) z
        go z true = refl
        go z false = +ℤ_idr z

  -- ---- what is returned

  -- lines 8 and 10: after a right step J can be added just if it fits
  feasible_is : PositiveLengths T → {s : List ℤ} {x : Step} (xs : List Step) → Right T s x → RightSteps T (after_step T s x) xs →
      fits T (go_back T xs) x.turn ≡ true ↔ Independent T (set (go_back T xs) x.turn true)
  feasible_is lengths {s} {x} xs q qs = (λ e. apart_reads T (set U x.turn true) lengths (put_apart T U x.turn e (go_back_apart T xs)), λ h. apart_fits T U x.turn (free h))
    where
      U : List Bool
      U = go_back T xs

      added : has (set U x.turn true) x.turn ≡ true
      added = get_or-set_same U x.turn true false (omega (arith, go_back_length T xs, q.inside))

      -- what is chosen is open after the step, and J is not
      differs : (t : ℕ) → has U t ≡ true → t ≢ x.turn
      differs t e d = omega (arith, (go_back_earns T qs).lives t e, Residuals.right_spends T s x q, ap (left (after_step T s x)) d)

      free : Independent T (set U x.turn true) → (t : ℕ) → t < T.count → has U t ≡ true → conflict T t x.turn ≡ false
      free h t l e = (Minutes.no_conflict_is T lengths t x.turn l q.inside).1 (h t x.turn l q.inside (differs t e) (put_keeps U x.turn t e) added)

  -- ---- every derivation

  module _ (lengths : PositiveLengths T) where
    -- what a call returns and its steps, by the residuals: those of the planner
    abbrev Returned : List Bool → List Step → ℕ → List ℤ → Type 0
    Returned S xs k s = (S ≡ go_back T (plan T k s)) × (xs ≡ plan T k s)

    -- lines 5 to 7: the call for the weights that stay has returned S
    called : {A S : List Bool} {w : ℕ → ℤ} {xs : List Step} (j amount : ℕ) → AllPositive T A w → EndsFirst T A w j → w j ≡ pos amount → (k : ℕ) (s : List ℤ) → opens T s ≤ k → Agrees T A w s →
        ((k : ℕ) (s : List ℤ) → opens T s ≤ k → Agrees T A (w₂ T w j) s → Returned S xs k s) →
        (fits T S j ≡ true ↔ Independent T (set S j true)) × (choose (fits T) S j ≡ go_back T (plan T k s)) × (◌≡◌ {A = List Step} (record { turn = j; amount = amount } ∷ xs) (plan T k s))
    unfolding next_step
    called j amount h e v zero s m a ih = absurd (omega (arith, opens_some T s j e.inside (ends_first_picked a j h e).live))
    called {A} {S} {w} {xs} j amount h e v (suc k) s m a ih = (
      rw (r.0, ← at_j) (feasible_is lengths (plan T k after) q (plan_right T k after)),
      rw (plan_goes T k s l, go_back_goes, r.0, ← at_j),
      rw (plan_goes T k s l, r.1, owed, ← at_j),
    )
      where
        at_j : pick T s ≡ j
        at_j = picked_pick T s j (ends_first_picked a j h e)

        l : pick T s < T.count
        l = omega (arith, e.inside, at_j)

        q : Right T s (next_step T s)
        q = next_step_right T s l

        owed : amount ≡ left s (pick T s)
        owed = pos_same (sym v ∙ rw (← at_j) (weight a (next_step T s) q))

        after : List ℤ
        after = after_step T s (next_step T s)

        r : Returned S xs k after
        r = ih k after (omega (arith, opens_fall T s (next_step T s) q)) (rw (← at_j) (splitting a h (next_step T s) q))

    returns : {A S : List Bool} {w : ℕ → ℤ} {xs : List Step} → IS T A w S xs → (k : ℕ) (s : List ℤ) → opens T s ≤ k → Agrees T A w s → Returned S xs k s
    returns (line1 e) k s m a =
        let none : pick T s ≡ T.count = (pick_count T s).1 (λ t l. a.gone t l (e t l)) in
        rw (plan_stops T k s (omega arith)) (sym (go_back_none T), refl)
    returns (line3 i l e c d) k s m a = returns d k s m (removing a i l e c)
    returns (line9 {S = S} j amount h e v d f) k s m a =
        let (fit, r, x) = called j amount h e v k s m a (λ k s m a. returns d k s m a) in
        (sym (choose_set (fits T) S j (fit.1 f)) ∙ r, x)
    returns (line11 {S = S} j amount h e v d f) k s m a =
        let (fit, r, x) = called j amount h e v k s m a (λ k s m a. returns d k s m a) in
        (sym (choose_not (fits T) S j (fails (fits T S j) (λ i. f (fit.0 i)))) ∙ r, x)

    -- ---- some derivation

    -- a call with fewer intervals, those below i all open, that returns the same
    abbrev Removable : List Bool → (ℕ → ℤ) → List ℤ → ℕ → Type 0
    Removable A w s i = (B : List Bool) × Agrees T B w s × ((t : ℕ) → t < i → has B t ≡ true → is_open s t ≡ true) × ((S : List Bool) (xs : List Step) → IS T B w S xs → IS T A w S xs)

    -- removing one by one what is not open
    removable : {A : List Bool} {w : ℕ → ℤ} {s : List ℤ} → Agrees T A w s → (i : ℕ) → i ≤ T.count → Removable A w s i
    removable {A} a zero m = (A, a, λ t l. absurd (omega arith), λ S xs d. d)
    removable {A} {w} {s} a (suc i) m = go (removable a i (omega arith))
      where
        go : Removable A w s i → Removable A w s (suc i)
        go (B, b, o, f) = by (has B i) refl (is_open s i) refl
          where
            by : (c : Bool) → has B i ≡ c → (d : Bool) → is_open s i ≡ d → Removable A w s (suc i)
            by true e true q = (B, b, up_to (λ t. has B t ≡ true → is_open s t ≡ true) i o (λ p. q), f)
            by true e false q =
                let spent = sym (member_open b i m e) ∙ q in (
                  set B i false,
                  removing b i m e spent,
                  up_to (λ t. has (set B i false) t ≡ true → is_open s t ≡ true) i (λ t l p. o t l (stays B i t p).1) (λ p. absurd (not_both p (removed B i))),
                  λ S xs d. f S xs (line3 i m e spent d),
                )
            by false e d q = (B, b, up_to (λ t. has B t ≡ true → is_open s t ≡ true) i o (λ p. absurd (not_both p e)), f)

    derived_none : (s : List ℤ) → Closed T s → {A : List Bool} {w : ℕ → ℤ} → Agrees T A w s → IS T A w (go_back T []) []
    derived_none s h a =
        let (B, b, o, f) = removable a T.count (omega arith) in
        f (go_back T []) [] (rw go_back_none (line1 (λ t l. fails (has B t) (λ e. not_both (o t l e) (h t l)))))

    derived_step : (s : List ℤ) (xs : List Step) → pick T s < T.count → RightSteps T (after_step T s (next_step T s)) xs →
        ((A : List Bool) (w : ℕ → ℤ) → Agrees T A w (after_step T s (next_step T s)) → IS T A w (go_back T xs) xs) →
        {A : List Bool} {w : ℕ → ℤ} → Agrees T A w s → IS T A w (go_back T (next_step T s ∷ xs)) (next_step T s ∷ xs)
    unfolding next_step
    derived_step s xs l r ih {A} {w} a = go (removable a T.count (omega arith))
      where
        go : Removable A w s T.count → IS T A w (go_back T (next_step T s ∷ xs)) (next_step T s ∷ xs)
        go (B, b, o, f) =
            let positive : AllPositive T B w = λ t m e. sym (member_open b t m e) ∙ o t m e in
            let q = next_step_right T s l in
            let first = picked_ends_first b (pick T s) positive (pick_picked T s l) in
            let d : IS T B (w₂ T w (pick T s)) (go_back T xs) xs = ih B (w₂ T w (pick T s)) (splitting b positive (next_step T s) q) in
            let fit = feasible_is lengths xs q r in
            let v = weight b (next_step T s) q in
            f (go_back T (next_step T s ∷ xs)) (next_step T s ∷ xs)
            (rw go_back_goes
            (choose_cases (fits T) (λ S. IS T B w S (next_step T s ∷ xs)) (go_back T xs) (pick T s)
            (λ e. line9 (pick T s) (left s (pick T s)) positive first v d (fit.0 e))
            (λ e. line11 (pick T s) (left s (pick T s)) positive first v d (λ i. not_both (fit.1 i) e))))

    derived : (k : ℕ) (s : List ℤ) → opens T s ≤ k → (A : List Bool) (w : ℕ → ℤ) → Agrees T A w s → IS T A w (go_back T (plan T k s)) (plan T k s)
    derived zero s m A w a = rw (plan_stops T zero s (omega (arith, none))) (derived_none s closed a)
      where
        closed : Closed T s
        closed t l = fails (is_open s t) (λ e. omega (arith, opens_some T s t l e))

        none : pick T s ≡ T.count
        none = (pick_count T s).1 closed
    derived (suc k) s m A w a = go (dec_lt (pick T s) T.count) (derived k (after_step T s (next_step T s)))
      where
        after : List ℤ
        after = after_step T s (next_step T s)

        go : Dec (pick T s < T.count) → (opens T after ≤ k → (A : List Bool) (w : ℕ → ℤ) → Agrees T A w after → IS T A w (go_back T (plan T k after)) (plan T k after)) → IS T A w (go_back T (plan T (suc k) s)) (plan T (suc k) s)
        go (yes l) ih = rw (plan_goes T k s l) (derived_step s (plan T k after) l (plan_right T k after) (ih (omega (arith, opens_fall T s (next_step T s) (next_step_right T s l)))) a)
        go (no l) ih = rw (plan_stops T (suc k) s (omega arith)) (derived_none s (pick_none T s (omega arith)) a)

    -- ---- the first call

    pub selection_exists : Selects T (go_back T (steps T)) (steps T)
    unfolding steps
    selection_exists = derived T.count (initial T) (opens_most T (initial T)) (replicate T.count true) (λ t. pos (T.worth t)) starts

    pub selection_unique : {S : List Bool} {xs : List Step} → Selects T S xs → (S ≡ go_back T (steps T)) × (xs ≡ steps T)
    unfolding steps
    selection_unique d = returns d T.count (initial T) (opens_most T (initial T)) starts

    -- the planner's choice is what the algorithm returns, filled
    pub selection_filled : {S : List Bool} {xs : List Step} → Selects T S xs → choice T ≡ fill (fits T) T.count S
    unfolding choice
    selection_filled d = rw (selection_unique d).0
