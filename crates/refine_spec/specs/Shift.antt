-- The rule of a shift: the relaxed set at some prices, and how a round moves each price by the turns of that set that pay it (request P-2). Assumes nothing.
use Rattle.std.specs.Prelude.{◌≡◌, Bool, true, false, cond, List, ◌++◌, ℕ, ◌+◌, ◌-◌, ◌*◌, ◌/◌, ◌≤◌, max, min, eqb, length, replicate}
use Rattle.lists.specs.Lists.{tab, sum_over, below}
use Rattle.model.specs.Turns.{Turns}
use Rattle.model.specs.Choice.{has, chosen, fits, choice}
use Rattle.model.specs.Rules.{Independent}
use Rattle.model.specs.Feasible.{Feasible}
use Rattle.best_spec.specs.Table.{best_over, is_among, Later}
use Rattle.best_spec.specs.Groomers.{own_turns}
use Rattle.limit_spec.specs.Prices.{slope_price, turn_price, pays_turn, counts_for, priced_turns, limit_by}
use Rattle.refine_spec.specs.Rounds.{RoundRule, Stage, start_from, refined, greatest_of, first_change}
use Rattle.refine_spec.specs.Selection.{choice_from}

-- turn t is in the best set of its groomer's own turns at these counts
unfoldable pub is_relaxed : Turns → ℕ → Bool
is_relaxed P t = is_among (best_over P (own_turns P (P.groomer t))).turns t

-- the relaxed set: the groomers' best sets at these prices together
unfoldable pub relaxed_set : Turns → ℕ → List ℕ → List Bool
relaxed_set T slopes prices = tab T.count (is_relaxed (priced_turns T slopes prices))

-- how many turns of a set pay the price of slope k
unfoldable pub slope_payers : Turns → List Bool → ℕ → ℕ
slope_payers T S k = chosen T.count S (λ t. cond (eqb (T.slope t) k) 1 0)

-- how many turns of a set pay the price of turn u
unfoldable pub turn_payers : Turns → List Bool → ℕ → ℕ
turn_payers T S u = chosen T.count S (λ t. cond (pays_turn T u t) 1 0)

-- no round moves a price above this
abbrev pub highest_price : ℕ
highest_price = 60000

-- a price that no turn of the set pays falls by the change, to 0 at the lowest; one that several pay rises by the change for each of them but one, to the highest at most; one that a single turn pays stays
unfoldable pub moved_price : ℕ → ℕ → ℕ → ℕ
moved_price change payers price = cond (eqb payers 0) (price - change) (cond (eqb payers 1) price (min highest_price (price + (payers - 1) * change)))

-- the change of a turn's price: half, rounded down, and never below 1
unfoldable pub turn_change : ℕ → ℕ
turn_change change = max 1 (change / 2)

-- all prices after a round. A turn without a driver has the price 0, and no turn pays it: it stays 0
unfoldable pub moved_prices : Turns → ℕ → List Bool → ℕ → List ℕ → List ℕ
moved_prices T slopes S change prices =
    tab slopes (λ k. moved_price change (slope_payers T S (k + 1)) (slope_price prices (k + 1)))
    ++ tab T.count (λ u. moved_price (turn_change change) (turn_payers T S u) (turn_price slopes prices u))

-- the rule
unfoldable pub shift_rule : Turns → ℕ → ℕ → RoundRule
shift_rule T groomers slopes =
    record {
      limit = limit_by T groomers slopes;
      choice = λ prices. choice_from (fits T) T (relaxed_set T slopes prices);
      worth = λ S. chosen T.count S T.worth;
      moved = λ change prices. moved_prices T slopes (relaxed_set T slopes prices) change prices;
    }

-- the greatest worth of all turns
unfoldable pub greatest_worth : Turns → ℕ
greatest_worth T = greatest_of T.worth (below T.count)

-- before the first look: every price is 0, the change is a quarter of the greatest worth, rounded up, and the choice is the planner's
unfoldable pub shift_start : Turns → ℕ → ℕ → Stage
shift_start T groomers slopes = start_from (shift_rule T groomers slopes) (first_change 4 (greatest_worth T)) (replicate (slopes + T.count) 0) (choice T)

-- at most so many rounds from there
unfoldable pub shift_refined : Turns → ℕ → ℕ → ℕ → Stage
shift_refined T groomers slopes rounds = refined (shift_rule T groomers slopes) rounds (shift_start T groomers slopes)

-- ---- as statements

-- the relaxed set in words: no two of its turns conflict by groomer, no such set counts for more at these prices, and of those that count for as much it leaves out the latest of a groomer's turns in which they differ
pub record Relaxed (T : Turns) (slopes : ℕ) (prices : List ℕ) (S : List Bool) : Type 0 where
  pub places : length S ≡ T.count
  pub apart : Independent (priced_turns T slopes prices) S
  pub greatest : (R : List ℕ) → Feasible (priced_turns T slopes prices) R → sum_over (counts_for T slopes prices) R ≤ chosen T.count S (counts_for T slopes prices)
  pub latest : (R : List ℕ) → Feasible (priced_turns T slopes prices) R → sum_over (counts_for T slopes prices) R ≡ chosen T.count S (counts_for T slopes prices) →
      (x : ℕ) → has S x ≡ true → is_among R x ≡ false → (y : ℕ) × (is_among R y ≡ true) × (has S y ≡ false) × Later (priced_turns T slopes prices) y x
