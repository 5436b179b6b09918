-- The loop of rounds by its cases, whatever the rule: what is left to do from a stage is what was to do at the start. Assumes nothing.
use mathlib.Core.Path.{◌≡◌, sym, ap, ◌∙◌}
use mathlib.Core.Logic.{◌⊎◌, inl, inr}
use mathlib.Core.Bool.{Bool, true, false, cond, ◌||◌}
use mathlib.Core.List.{List}
use Prim.Native.Nat.{ℕ, zero, suc, ◌+◌, ◌-◌, ◌≤◌, ◌<◌}
use native.Mathlib.Omega.{arith}
use lib.Dec.{eqb}
use borrow.Author.Tests.{lt-ltb, le-ltb, eqb-true, eqb-false}
use Rattle.lists.proofs.Bools.{or_cases, or_false_1, or_false_2}
use Rattle.refine_spec.specs.Rounds.{RoundRule, Stage, start_from, lower_limit, better_choice, looked, moving, refined}
use Rattle.refine_spec.proofs.Rounds.{Met, refined_stops, refined_goes}

-- ---- a look, and what comes after it

module _ (R : RoundRule) (whole : Stage) (rounds : ℕ) (x y : Stage) (leads : refined R (rounds - x.rounds) x ≡ whole) (look_is : looked R x ≡ y) {over : Bool}
    (o : over ≡ (eqb y.limit y.worth || eqb x.rounds rounds)) where
  stopping : over ≡ true → (rounds ≤ x.rounds) ⊎ Met (looked R x)
  stopping f = go (or_cases (eqb y.limit y.worth) (eqb x.rounds rounds) (sym o ∙ f))
    where
      go : (eqb y.limit y.worth ≡ true) ⊎ (eqb x.rounds rounds ≡ true) → (rounds ≤ x.rounds) ⊎ Met (looked R x)
      go (inl h) = inr (rw look_is (eqb-true y.limit y.worth h))
      go (inr h) = inl (omega (arith, eqb-true x.rounds rounds h))

  -- it ends: the stage after the look is what the rounds come to
  pub loop_stops : over ≡ true → y ≡ whole
  loop_stops f = sym look_is ∙ sym (refined_stops R rounds x.rounds x (stopping f)) ∙ leads

  module _ (few : x.rounds ≤ rounds) (f : over ≡ false) where
    pub loop_left : x.rounds < rounds
    loop_left = omega (arith, few, eqb-false x.rounds rounds (or_false_2 (eqb y.limit y.worth) (eqb x.rounds rounds) (sym o ∙ f)))

    apart : Met (looked R x) → ⊥
    apart m = eqb-false y.limit y.worth (or_false_1 (eqb y.limit y.worth) (eqb x.rounds rounds) (sym o ∙ f)) (rw look_is at m)

    -- it goes on: a round more, and the same is left to do
    pub loop_goes : refined R (rounds - (x.rounds + 1)) (moving R y) ≡ whole
    loop_goes = ap (λ (v : Stage). refined R (rounds - (x.rounds + 1)) (moving R v)) (sym look_is) ∙ sym (refined_goes R rounds x.rounds x loop_left apart) ∙ leads

-- ---- the first look: where it keeps its own limit, it does not matter which stood before

module _ (R : RoundRule) where
  same_look : (n : ℕ) (x y : Stage) → looked R x ≡ looked R y → refined R n x ≡ refined R n y
  unfolding refined
  same_look zero x y e = e
  same_look (suc n) x y e = ap (λ (z : Stage). cond (eqb z.limit z.worth) z (refined R n (moving R z))) e

  module _ (prices : List ℕ) (change limit : ℕ) (list : List ℕ) (S : List Bool) {worth : ℕ} (w : worth ≡ R.worth S) (h : R.limit prices < limit) where
    first_look : looked R (record { prices = prices; change = change; rounds = 0; limit = limit; list = list; choice = S; worth = worth }) ≡ looked R (start_from R change prices S)
    unfolding looked lower_limit better_choice start_from
    first_look = rw (w, lt-ltb (R.limit prices) limit h, le-ltb (R.limit prices) (R.limit prices) (omega arith))

    pub first_same : (n : ℕ) → refined R n (record { prices = prices; change = change; rounds = 0; limit = limit; list = list; choice = S; worth = worth }) ≡ refined R n (start_from R change prices S)
    first_same n = same_look n (record { prices = prices; change = change; rounds = 0; limit = limit; list = list; choice = S; worth = worth }) (start_from R change prices S) first_look
