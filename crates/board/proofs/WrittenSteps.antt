-- Right steps as they are written, whatever a step takes: each is about one of the turns, and its two numbers fit two bytes each. Assumes nothing.
use Prim.Native.Nat.{ℕ, zero, suc, ◌<◌, ◌≤◌}
use mathlib.Core.List.{List}
use native.Mathlib.Omega.{arith}
use lib.IntN.{ℤ}
use lib.ListN.{length, get_or}
use Rattle.turn.specs.Turn.{most_worth}
use Rattle.sheet.specs.Kind.{most_turns}
use Rattle.model.specs.Turns.{Turns}
use Rattle.model.specs.Steps.{Step}
use Rattle.model.specs.Pick.{steps}
use Rattle.model.specs.Rules.{Right, Each, done, step}
use Rattle.model.proofs.Planned.{planned_right}
use Rattle.model.proofs.Limits.{AllWithin, initial_within, amount_within, step_within}
use Rattle.board.proofs.StepBytes.{SmallSteps, none, more}

module _ {T : Turns} {next : List ℤ → Step → List ℤ} where
  pub each_inside : {s : List ℤ} {xs : List Step} → Each next (Right T) s xs → (d : Step) (i : ℕ) → i < length xs → (get_or xs i d).turn < T.count
  each_inside done d i h = absurd (omega arith)
  each_inside (step q qs) d zero h = q.inside
  each_inside (step q qs) d (suc i) h = each_inside qs d i (omega arith)

-- residuals stay in range, by whatever the steps keep
module _ (T : Turns) (few : T.count ≤ most_turns) (next : List ℤ → Step → List ℤ) (Kept : List ℤ → Type 0) (range : (s : List ℤ) → Kept s → AllWithin most_worth s)
    (goes : (s : List ℤ) (x : Step) → Kept s → Right T s x → Kept (next s x)) where
  pub each_small : {s : List ℤ} {xs : List Step} → Kept s → Each next (Right T) s xs → SmallSteps xs
  each_small h done = none
  each_small h (step {s = s} {x = x} q qs) = more {x = x} (omega (arith, q.inside)) (omega (arith, amount_within T most_worth (range s h) q)) (each_small (goes s x h q) qs)

-- a shift's steps
module _ (T : Turns) (few : T.count ≤ most_turns) (worths : (t : ℕ) → t < T.count → T.worth t ≤ most_worth) where
  pub steps_small : SmallSteps (steps T)
  steps_small = each_small T few _ (AllWithin most_worth) (λ s h. h) (λ s x h q. step_within T most_worth h q) (initial_within T most_worth worths) (planned_right T)
