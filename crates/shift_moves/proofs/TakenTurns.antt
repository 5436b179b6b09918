-- The turns of a set by worth are a list that has the turns of the set. None of this is in the source. Assumes nothing.
use Prim.Native.Nat.{ℕ, ◌≤◌}
use mathlib.Core.Path.{◌∙◌}
use mathlib.Core.Bool.{Bool, true, false, cond}
use mathlib.Core.List.{List, [], ◌∷◌}
use native.Mathlib.Omega.{arith}
use lib.ListN.{length}
use Rattle.lists.specs.Lists.{below, keep}
use Rattle.lists.specs.Sorting.{sort_by}
use Rattle.lists.proofs.Keeping.{keep_every, keep_where}
use Rattle.model.specs.Turns.{Turns}
use Rattle.model.specs.Choice.{has, chosen}
use Rattle.best_spec.proofs.Ordering.{sort_sum}
use Rattle.refine_spec.specs.Selection.{poorer_first, by_worth}
use Rattle.refine_spec.proofs.Selection.{worth_length, worth_range}
use Rattle.shift_moves.specs.Moves.{Taken, TurnsOf}

kept_few : (p : ℕ → Bool) (ts : List ℕ) → length (keep p ts) ≤ length ts
unfolding keep
kept_few p [] = omega arith
kept_few p (t ∷ ts) = go (p t) (kept_few p ts)
  where
    go : (b : Bool) → length (keep p ts) ≤ length ts → length (cond b (t ∷ keep p ts) (keep p ts)) ≤ length (t ∷ ts)
    go true h = omega arith
    go false h = omega arith

module _ (T : Turns) (S : List Bool) where
  pub worth_taken_lem : Taken T.count (keep (has S) (by_worth T))
  worth_taken_lem = record { few = omega (arith, kept_few (has S) (by_worth T), worth_length T); inside = keep_every (has S) (worth_range T) }

  pub worth_turns : TurnsOf T.count S (keep (has S) (by_worth T))
  unfolding TurnsOf by_worth chosen
  worth_turns f = keep_where (has S) f (sort_by (poorer_first T) (below T.count)) ∙ sort_sum (poorer_first T) (λ t. cond (has S t) (f t) 0) (below T.count)
