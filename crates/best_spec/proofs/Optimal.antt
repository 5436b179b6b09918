-- The table's set, of turns without drivers and without a second turn on a slope: no two conflict, it earns the worth, and no feasible set earns more. Assumes nothing.
use mathlib.Core.Path.{◌≡◌}
use mathlib.Core.Bool.{Bool, true, cond}
use mathlib.Core.List.{List}
use Prim.Native.Nat.{ℕ, ◌≤◌}
use native.Mathlib.Omega.{arith}
use lib.ListN.{length}
use Rattle.model.specs.Turns.{Turns, PositiveLengths, NoDrivers, conflict}
use Rattle.model.specs.Steps.{tally}
use Rattle.model.specs.Pick.{steps}
use Rattle.model.specs.Choice.{has, chosen, choice}
use Rattle.model.specs.Rules.{Independent}
use Rattle.model.specs.Feasible.{Feasible, worth_of, OneTurnASlope}
use Rattle.model.proofs.Groups.{Apart}
use Rattle.model.proofs.Bound.{bound_once}
use Rattle.model.proofs.Filled.{NoConflict}
use Rattle.model.proofs.Planned.{planned_right, steps_closed}
use Rattle.model.proofs.Promised.{choice_apart, choice_earns}
use Rattle.model.proofs.Readings.{apart_reads}
use Rattle.best_spec.specs.Table.{turn_order, best_over, best_worth, best_choice, is_among, BestSet}
use Rattle.best_spec.proofs.Members.{set_length, set_from, from_set, set_earns}
use Rattle.best_spec.proofs.Ordering.{order_ordered, order_range, order_sum}
use Rattle.best_spec.proofs.Tables.{best_earns, best_every, apart_among, best_feasible, taking_best}

-- ---- the choice that marks the set

module _ (T : Turns) where
  -- the table's set
  abbrev pub best_turns : List ℕ
  best_turns = (best_over T (turn_order T)).turns

  pub choice_among : (x : ℕ) → has (best_choice T) x ≡ true → is_among best_turns x ≡ true
  unfolding best_choice
  choice_among = set_from T.count best_turns

  pub among_choice : (x : ℕ) → is_among best_turns x ≡ true → has (best_choice T) x ≡ true
  unfolding best_choice
  among_choice = from_set T.count best_turns (best_every T (turn_order T) (order_range T))

  pub best_length : length (best_choice T) ≡ T.count
  unfolding best_choice
  best_length = set_length T.count best_turns

module _ (T : Turns) (lengths : PositiveLengths T) (free : NoDrivers T) (single : OneTurnASlope T) where
  -- ---- feasible, and the greatest

  set_feasible : Feasible T (best_turns T)
  set_feasible = (best_feasible T lengths free single (turn_order T) (order_ordered T) (order_range T)).0

  set_apart : Apart (conflict T) (best_turns T)
  set_apart = (best_feasible T lengths free single (turn_order T) (order_ordered T) (order_range T)).1

  -- the table's set is feasible and earns the best worth
  pub best_set : BestSet T (best_turns T)
  unfolding best_worth
  best_set = record { feasible = set_feasible; earns = best_earns T (turn_order T) }

  -- no two turns of its choice conflict
  best_no_conflict : NoConflict T (best_choice T)
  best_no_conflict x y hx hy d e f = apart_among T set_apart x y (choice_among T x e) (choice_among T y f) d

  pub best_independent : Independent T (best_choice T)
  best_independent = apart_reads T (best_choice T) lengths best_no_conflict

  -- no choice without a conflict earns more
  choice_most : (S : List Bool) → NoConflict T S → chosen T.count S T.worth ≤ best_worth T
  unfolding chosen best_worth
  choice_most S a =
      omega (arith, order_sum T (λ t. cond (has S t) (T.worth t) 0), taking_best T lengths free single (has S) a (turn_order T) (order_ordered T, order_range T))

  set_most : best_worth T ≤ tally (steps T)
  set_most = omega (arith, best_set.earns, bound_once T lengths set_feasible (planned_right T) (steps_closed T) free single)

  -- the best worth is the tally of the planned board, and its worth
  pub best_tally : best_worth T ≡ tally (steps T)
  best_tally = omega (arith, set_most, choice_earns T, choice_most (choice T) (choice_apart T))

  pub best_planned : best_worth T ≡ chosen T.count (choice T) T.worth
  best_planned = omega (arith, set_most, choice_earns T, choice_most (choice T) (choice_apart T))

  -- no feasible set earns more
  pub best_greatest : (R : List ℕ) → Feasible T R → worth_of T R ≤ best_worth T
  best_greatest R f = omega (arith, best_tally, bound_once T lengths f (planned_right T) (steps_closed T) free single)

  -- its choice earns it
  pub best_chosen : chosen T.count (best_choice T) T.worth ≡ best_worth T
  unfolding best_choice
  best_chosen = omega (arith, best_set.earns, choice_most (best_choice T) best_no_conflict, set_earns T.count (best_turns T) T.worth set_feasible.numbers set_feasible.once)
