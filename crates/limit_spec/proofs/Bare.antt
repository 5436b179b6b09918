-- The table reads neither slopes nor drivers: it is the same if no two turns share a slope and none has a driver. Assumes nothing.
use mathlib.Core.Path.{◌≡◌, refl, ap, ◌∙◌}
use mathlib.Core.Bool.{false}
use mathlib.Core.List.{List, [], ◌∷◌}
use Prim.Native.Nat.{ℕ, ◌+◌}
use lib.Dec.{eqb}
use lib.ListN.{replicate}
use Rattle.lists.specs.Lists.{sum_over, below, keep}
use Rattle.model.specs.Turns.{Turns, one_groomer}
use Rattle.best_spec.specs.Table.{Best, later_first, turn_order, in_the_way, blocked, best_table, best_over, best_worth, marked, best_choice}
use Rattle.best_spec.specs.Groomers.{own_turns, groomer_worth, groomers_worth}

-- turns with other worths
abbrev pub with_worths : Turns → (ℕ → ℕ) → Turns
with_worths T f = record { count = T.count; gap = T.gap; slope = T.slope; groomer = T.groomer; start = T.start; end = T.end; worth = f; driver = T.driver }

-- each on a slope of its own, and without a driver
abbrev pub bare : Turns → Turns
bare T = record { count = T.count; gap = T.gap; slope = λ t. t; groomer = T.groomer; start = T.start; end = T.end; worth = T.worth; driver = λ t. 0 }

module _ (T : Turns) where
  bare_order : turn_order (bare T) ≡ turn_order T
  unfolding turn_order later_first one_groomer
  bare_order = refl

  bare_blocked : (t : ℕ) (us : List ℕ) → blocked (bare T) t us ≡ blocked T t us
  unfolding blocked in_the_way one_groomer
  bare_blocked t [] = refl
  bare_blocked t (u ∷ us) = rw (bare_blocked t us)

  bare_table : (ts : List ℕ) → best_table (bare T) ts ≡ best_table T ts
  unfolding best_table
  bare_table [] = refl
  bare_table (t ∷ us) = rw (bare_table us, bare_blocked t us)

  bare_of : (ts : List ℕ) → best_over (bare T) ts ≡ best_over T ts
  unfolding best_over
  bare_of ts = rw (bare_table ts)

  pub bare_best : best_worth (bare T) ≡ best_worth T
  unfolding best_worth
  bare_best = ap (λ (ts : List ℕ). (best_over (bare T) ts).worth) bare_order ∙ ap (λ (b : Best). b.worth) (bare_of (turn_order T))

  pub bare_choice : best_choice (bare T) ≡ best_choice T
  unfolding best_choice
  bare_choice = ap (λ (ts : List ℕ). marked (replicate T.count false) (best_over (bare T) ts).turns) bare_order ∙ ap (λ (b : Best). marked (replicate T.count false) b.turns) (bare_of (turn_order T))

  bare_groomer : (g : ℕ) → groomer_worth (bare T) g ≡ groomer_worth T g
  unfolding groomer_worth own_turns
  bare_groomer g = ap (λ (ts : List ℕ). (best_over (bare T) (keep (λ t. eqb (T.groomer t) g) ts)).worth) bare_order ∙ ap (λ (b : Best). b.worth) (bare_of (keep (λ t. eqb (T.groomer t) g) (turn_order T)))

  pub bare_groomers : (n : ℕ) → groomers_worth (bare T) n ≡ groomers_worth T n
  unfolding groomers_worth
  bare_groomers n = ap (λ (f : ℕ → ℕ). sum_over f (below n)) (λ j k. bare_groomer (k + 1) j)
