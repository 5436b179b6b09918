-- Bounds that a program needs of the small windows' plan: residuals, the number of steps, the two sums. A step takes only from what is above zero, and from a small window at most its amount, so that residuals stay in the range that they have in a shift. None of this is in the source. Assumes nothing.
use mathlib.Core.Path.{◌≡◌, refl}
use mathlib.Core.Bool.{Bool, true, false}
use mathlib.Core.List.{List}
use Prim.Native.Nat.{ℕ, ◌≤◌, ◌<◌}
use native.Mathlib.Omega.{arith}
use lib.IntN.{ℤ}
use lib.ListN.{length}
use Rattle.lists.proofs.Bools.{cond_most}
use Rattle.model.specs.Turns.{Turns}
use Rattle.model.specs.Steps.{Step, residual, above, is_open, initial, lessened, after_step_by, final}
use Rattle.model.specs.Rules.{Right, Each, done, step}
use Rattle.model.proofs.Residuals.{lessened_closed, residual_after_by}
use Rattle.model.proofs.Planned.{plan_by_right, steps_most, opens_most}
use Rattle.model.proofs.Limits.{Within, AllWithin, initial_within, amount_within, lessened_within}
use Rattle.charge_spec.specs.Hall.{Hall, window_count, is_small}
use Rattle.charge_spec.specs.Plan.{turns_among, small_takes, small_steps}
use Rattle.charge_spec.proofs.Takes.{takes_most, small_taking}
use Rattle.charge_spec.proofs.Open.{OnlyKind, after_only}

module _ (H : Hall) (supplied : 0 < H.units) where
  abbrev T : Turns
  T = turns_among H (is_small H)

  abbrev next : List ℤ → Step → List ℤ
  next = after_step_by (small_takes H)

  -- what is taken at one place of the residuals leaves it in range
  pub takes_within : (B j amount t : ℕ) (z : ℤ) → (above z ≡ true → is_small H t ≡ true) → amount ≤ B → Within B z → Within B (lessened (small_takes H j amount t) z)
  takes_within B j amount t z small l h = go (above z) refl
    where
      go : (b : Bool) → above z ≡ b → Within B (lessened (small_takes H j amount t) z)
      go true e = lessened_within B (small_takes H j amount t) z h (omega (arith, takes_most H supplied j amount t (small e)))
      go false e = rw (lessened_closed (small_takes H j amount t) z e) h

  pub next_within : (B : ℕ) (s : List ℤ) (x : Step) → OnlyKind (is_small H) s → x.amount ≤ B → AllWithin B s → AllWithin B (next s x)
  unfolding is_open
  next_within B s x k l h t = rw (residual_after_by (small_takes H) s x t) (takes_within B x.turn x.amount t (residual s t) (k t) l (h t))

  module _ (worths : (t : ℕ) → t < window_count H → H.windows.worth t ≤ 60000) where
    kind_worths : (t : ℕ) → t < T.count → T.worth t ≤ 60000
    unfolding turns_among
    kind_worths t l = cond_most (is_small H t) (worths t l)

    pub first_within : AllWithin 60000 (initial T)
    first_within = initial_within T 60000 kind_worths

    run_within : {s : List ℤ} {xs : List Step} → OnlyKind (is_small H) s → AllWithin 60000 s → Each next (Right T) s xs → AllWithin 60000 (final next s xs)
    run_within k h done = h
    run_within k h (step {s = s} {x = x} q qs) =
        run_within (after_only (is_small H) (small_taking H) s x k) (next_within 60000 s x k (amount_within T 60000 h q).1 h) qs

  -- there are at most as many steps as windows
  pub small_few : length (small_steps H) ≤ window_count H
  unfolding small_steps turns_among
  small_few = omega (arith, steps_most T next (small_taking H) (plan_by_right T next (window_count H) (initial T)), opens_most T (initial T))
