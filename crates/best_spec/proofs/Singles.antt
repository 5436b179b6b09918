-- Whether a shift has one turn a slope and no drivers, in words. Assumes nothing.
use Prim.Native.Nat.{ℕ, ◌<◌}
use mathlib.Core.Path.{◌≡◌, sym}
use mathlib.Core.Bool.{true, not}
use native.Mathlib.Omega.{arith}
use native.Mathlib.Decide.{dec_lt}
use lib.Dec.{eqb}
use borrow.Author.Tests.{eqb-true, eq-eqb, ne_eqb}
use Rattle.lists.specs.Lists.{every}
use Rattle.lists.proofs.Bools.{and_1, and_2, and_of, not_both, every_at, every_of}
use Rattle.model.specs.Turns.{Turns, NoDrivers, by_slope}
use Rattle.model.specs.Feasible.{OneTurnASlope}
use Rattle.best_spec.specs.Single.{alone_below, single_turn, single_turns}

module _ (T : Turns) where
  single_at : single_turns T ≡ true → (x : ℕ) → x < T.count → single_turn T x ≡ true
  unfolding single_turns
  single_at e x h = every_at (single_turn T) T.count e x h

  pub single_driverless : single_turns T ≡ true → NoDrivers T
  unfolding single_turn
  single_driverless e t h = eqb-true (T.driver t) 0 (and_2 (alone_below T t t) (eqb (T.driver t) 0) (single_at e t h))

  -- of two turns the lower number is not on the slope of the higher
  below_other : single_turns T ≡ true → (x y : ℕ) → x < T.count → y < x → T.slope x ≡ T.slope y → ⊥
  unfolding single_turn alone_below by_slope
  below_other e x y h l s =
      let a = every_at (λ u. not (eqb (T.slope x) (T.slope u))) x (and_1 (every (λ u. not (eqb (T.slope x) (T.slope u))) x) (eqb (T.driver x) 0) (single_at e x h)) y l in
      not_both a (rw (eq-eqb (T.slope x) (T.slope y) s))

  pub single_slopes : single_turns T ≡ true → OneTurnASlope T
  single_slopes e x y hx hy s = go (dec_lt y x) (dec_lt x y)
    where
      go : Dec (y < x) → Dec (x < y) → x ≡ y
      go (yes l) d = absurd (below_other e x y hx l s)
      go (no l) (yes k) = absurd (below_other e y x hy k (sym s))
      go (no l) (no k) = omega arith

  pub single_of : NoDrivers T → OneTurnASlope T → single_turns T ≡ true
  unfolding single_turns single_turn alone_below by_slope
  single_of free single =
      every_of (single_turn T) T.count (λ x h. and_of (every (λ u. not (eqb (T.slope x) (T.slope u))) x) (eqb (T.driver x) 0)
      (every_of (λ u. not (eqb (T.slope x) (T.slope u))) x (λ u l. rw (ne_eqb (T.slope x) (T.slope u) (λ s. away x u l (single x u h (omega arith) s)))))
      (eq-eqb (T.driver x) 0 (free x h)))
    where
      away : (x u : ℕ) → u < x → x ≡ u → ⊥
      away x u l e = omega arith
