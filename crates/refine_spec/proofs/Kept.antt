-- Which prices and which choice the rounds keep, whatever the rule: those of the first look with the lowest limit, and of the first with the best choice. Assumes nothing.
use mathlib.Core.Path.{◌≡◌, refl, sym, ap, ◌∙◌}
use mathlib.Core.Bool.{Bool}
use mathlib.Core.List.{List}
use Prim.Native.Nat.{ℕ, ◌+◌, ◌≤◌, ◌<◌}
use native.Mathlib.Omega.{arith}
use native.Mathlib.Numerals.{add-one}
use native.Mathlib.Decide.{dec_lt, ℕ_discrete}
use Rattle.refine_spec.specs.Rounds.{RoundRule, Stage, start_from, lower_limit, better_choice, looked, moving, refined, change_at, prices_at, LowestKept, BestKept, none_better, first_best}
use Rattle.refine_spec.proofs.Rounds.{looked_rounds, limit_stays, limit_lower, choice_stays, choice_better, refined_ind}

module _ (R : RoundRule) (change : ℕ) (prices : List ℕ) (planned : List Bool) where
  abbrev at : ℕ → List ℕ
  at k = prices_at R change prices k

  abbrev choice_at : ℕ → ℕ
  choice_at k = R.worth (R.choice (at k))

  -- the kept limit and list, where some looks are made
  record Lowest (x : Stage) (seen : ℕ) : Type 0 where
    look : ℕ
    looked_at : look ≤ x.rounds
    list_is : x.list ≡ at look
    limit_is_lem : x.limit ≡ R.limit x.list
    lowest : (k : ℕ) → k < seen → x.limit ≤ R.limit (at k)
    earliest : (k : ℕ) → k < look → x.limit < R.limit (at k)

  -- the kept choice
  data Best (x : Stage) (seen : ℕ) : Type 0 where
    as_planned : x.choice ≡ planned → ((k : ℕ) → k < seen → choice_at k ≤ R.worth planned) → Best x seen
    as_found : (look : ℕ) → look ≤ x.rounds → x.choice ≡ R.choice (at look) → R.worth planned < R.worth x.choice →
        ((k : ℕ) → k < seen → choice_at k ≤ R.worth x.choice) → ((k : ℕ) → k < look → choice_at k < R.worth x.choice) → Best x seen

  -- a stage, so many looks being made
  record After (x : Stage) (seen : ℕ) : Type 0 where
    prices_are : x.prices ≡ at x.rounds
    change_is : x.change ≡ change_at change x.rounds
    worth_is : x.worth ≡ R.worth x.choice
    limit_kept : Lowest x seen
    choice_kept : Best x seen

  -- ---- a look

  -- below one more look: the one made now, or one before
  up_to : {P : ℕ → Type 0} (n : ℕ) → ((k : ℕ) → k < n → P k) → P n → (k : ℕ) → k < n + 1 → P k
  up_to {P} n f p k h = elim (ℕ_discrete k n) [ yes e ↦ rw e p | no d ↦ f k (omega arith) ]

  module _ (x : Stage) (a : After x x.rounds) where
    look_limit : Lowest (looked R x) (x.rounds + 1)
    look_limit = go (dec_lt (R.limit x.prices) x.limit)
      where
        was : Lowest x x.rounds
        was = a.limit_kept

        go : Dec (R.limit x.prices < x.limit) → Lowest (looked R x) (x.rounds + 1)
        go (yes h) =
            let l = limit_lower R x h in
            let e : R.limit x.prices ≡ R.limit (at x.rounds) = ap R.limit a.prices_are in
            record {
              look = x.rounds;
              looked_at = omega (arith, looked_rounds R x);
              list_is = l.1 ∙ a.prices_are;
              limit_is_lem = l.0 ∙ ap R.limit (sym l.1);
              lowest = up_to x.rounds (λ k m. omega (arith, was.lowest k m, l.0)) (omega (arith, l.0, e));
              earliest = λ k m. omega (arith, was.lowest k m, l.0);
            }
        go (no h) =
            let q : x.limit ≤ R.limit x.prices = omega arith in
            let l = limit_stays R x q in
            let e : R.limit x.prices ≡ R.limit (at x.rounds) = ap R.limit a.prices_are in
            record {
              look = was.look;
              looked_at = omega (arith, looked_rounds R x, was.looked_at);
              list_is = l.1 ∙ was.list_is;
              limit_is_lem = l.0 ∙ was.limit_is_lem ∙ ap R.limit (sym l.1);
              lowest = up_to x.rounds (λ k m. omega (arith, was.lowest k m, l.0)) (omega (arith, l.0, e));
              earliest = λ k m. omega (arith, was.earliest k m, l.0);
            }

    look_choice : Best (looked R x) (x.rounds + 1)
    look_choice = go (dec_lt x.worth (R.worth (R.choice x.prices)))
      where
        e : R.worth (R.choice x.prices) ≡ choice_at x.rounds
        e = ap (λ (p : List ℕ). R.worth (R.choice p)) a.prices_are

        stays : R.worth (R.choice x.prices) ≤ x.worth → Best x x.rounds → Best (looked R x) (x.rounds + 1)
        stays q (as_planned s f) =
            let c = choice_stays R x q in
            let w : R.worth x.choice ≡ R.worth planned = ap R.worth s in
            as_planned (c.1 ∙ s) (up_to x.rounds f (omega (arith, a.worth_is, e, w)))
        stays q (as_found look l s b f g) =
            let c = choice_stays R x q in
            let w : R.worth (looked R x).choice ≡ R.worth x.choice = ap R.worth c.1 in
            as_found look (omega (arith, looked_rounds R x)) (c.1 ∙ s) (omega (arith, w)) (up_to x.rounds (λ k m. omega (arith, w, f k m)) (omega (arith, a.worth_is, e, w))) (λ k m. omega (arith, w, g k m))

        better : x.worth < R.worth (R.choice x.prices) → Best x x.rounds → Best (looked R x) (x.rounds + 1)
        better q b =
            let c = choice_better R x q in
            let w : R.worth (looked R x).choice ≡ R.worth (R.choice x.prices) = ap R.worth c.1 in
            as_found x.rounds (omega (arith, looked_rounds R x)) (c.1 ∙ ap R.choice a.prices_are) (omega (arith, w, a.worth_is, (most b).0))
            (up_to x.rounds (λ k m. omega (arith, w, a.worth_is, (most b).1 k m)) (omega (arith, w, e)))
            (λ k m. omega (arith, w, a.worth_is, (most b).1 k m))
          where
            most : Best x x.rounds → (R.worth planned ≤ R.worth x.choice) × ((k : ℕ) → k < x.rounds → choice_at k ≤ R.worth x.choice)
            most (as_planned s f) = let w : R.worth x.choice ≡ R.worth planned = ap R.worth s in (omega (arith, w), λ k m. omega (arith, w, f k m))
            most (as_found look l s b f g) = (omega arith, f)

        go : Dec (x.worth < R.worth (R.choice x.prices)) → Best (looked R x) (x.rounds + 1)
        go (yes h) = better h a.choice_kept
        go (no h) = stays (omega arith) a.choice_kept

    look_worth : (looked R x).worth ≡ R.worth (looked R x).choice
    look_worth = go (dec_lt x.worth (R.worth (R.choice x.prices)))
      where
        go : Dec (x.worth < R.worth (R.choice x.prices)) → (looked R x).worth ≡ R.worth (looked R x).choice
        go (yes h) = let c = choice_better R x h in c.0 ∙ ap R.worth (sym c.1)
        go (no h) = let q : R.worth (R.choice x.prices) ≤ x.worth = omega arith in let c = choice_stays R x q in c.0 ∙ a.worth_is ∙ ap R.worth (sym c.1)

    after_look : After (looked R x) ((looked R x).rounds + 1)
    unfolding looked lower_limit better_choice
    after_look = record { prices_are = a.prices_are; change_is = a.change_is; worth_is = look_worth; limit_kept = look_limit; choice_kept = look_choice }

  -- ---- a round

  after_round : (x : Stage) → After x (x.rounds + 1) → After (moving R x) (moving R x).rounds
  unfolding moving prices_at change_at
  after_round x a =
      let l = a.limit_kept in
      record {
        prices_are = rw (a.prices_are, a.change_is, add-one x.rounds) refl;
        change_is = rw (a.change_is, add-one x.rounds) refl;
        worth_is = a.worth_is;
        limit_kept = record { look = l.look; looked_at = omega (arith, l.looked_at); list_is = l.list_is; limit_is_lem = l.limit_is_lem; lowest = l.lowest; earliest = l.earliest };
        choice_kept = go a.choice_kept;
      }
    where
      go : Best x (x.rounds + 1) → Best (moving R x) (x.rounds + 1)
      go (as_planned s f) = as_planned s f
      go (as_found look l s b f g) = as_found look (omega arith) s b f g

  -- ---- all rounds

  after_all : (n : ℕ) → After (refined R n (start_from R change prices planned)) ((refined R n (start_from R change prices planned)).rounds + 1)
  unfolding start_from prices_at change_at
  after_all n =
      refined_ind R (λ n x y. After x x.rounds → After y (y.rounds + 1)) (λ x a. after_look x a) (λ n x e a. after_look x a) (λ n x y d ih a. ih (after_round (looked R x) (after_look x a))) n
      (start_from R change prices planned)
      (record {
        prices_are = refl;
        change_is = refl;
        worth_is = refl;
        limit_kept = record { look = 0; looked_at = omega arith; list_is = refl; limit_is_lem = refl; lowest = λ k h. absurd (omega arith); earliest = λ k h. absurd (omega arith) };
        choice_kept = as_planned refl (λ k h. absurd (omega arith));
      })

  -- the limit and the list at the end
  pub lowest_kept : (n : ℕ) → let x = refined R n (start_from R change prices planned) in LowestKept R change prices x.rounds x.limit x.list
  lowest_kept n =
      let l = (after_all n).limit_kept in
      record { look = l.look; looked_at = l.looked_at; list_is = l.list_is; limit_is_lem = l.limit_is_lem; lowest = λ k h. l.lowest k (omega arith); earliest = l.earliest }

  -- the choice at the end
  pub best_kept : (n : ℕ) → let x = refined R n (start_from R change prices planned) in BestKept R change prices planned x.rounds x.choice
  best_kept n = go (after_all n).choice_kept
    where
      go : {x : Stage} → Best x (x.rounds + 1) → BestKept R change prices planned x.rounds x.choice
      go (as_planned s f) = none_better s (λ k h. f k (omega arith))
      go (as_found look l s b f g) = first_best look l s b (λ k h. f k (omega arith)) g
