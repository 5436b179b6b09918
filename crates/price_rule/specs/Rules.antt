-- What the rule of rounds says, for a shift and for a hall, as the functions compute it; for inner functions only (requests P-2 and P-3). Assumes nothing.
use Rattle.std.specs.Prelude.{◌≡◌, Bool, List, ℕ, ◌+◌, ◌≤◌, ◌<◌, length}
use Rattle.turn.specs.Turn.{shift_minutes, most_driver}
use Rattle.model.specs.Choice.{chosen, fits}
use Rattle.choice_map.specs.Choice.{choice_in}
use Rattle.sheet.specs.Kind.{most_slopes}
use Rattle.best_spec.specs.Table.{best_worth, best_choice}
use Rattle.instance.specs.declared.columns.Size.{Size}
use Rattle.instance.specs.Columns.{turns_by, Held}
use Rattle.best_table.specs.OrderAndTable.{Ranged}
use Rattle.limit_spec.specs.Prices.{price_sum}
use Rattle.shift_look.specs.declared.Extent.{Extent}
use Rattle.shift_look.specs.OrdersAndCounts.{counted_turns, turns_in, order_places, Ordered}
use Rattle.conflict_sets.specs.Sets.{row_words}
use Rattle.conflict_sets.specs.Rows.{RowsOf}
use Rattle.refine_spec.specs.Rounds.{RoundRule, first_change}
use Rattle.refine_spec.specs.Selection.{by_worth, choice_from}
use Rattle.refine_spec.specs.Shift.{greatest_worth, moved_prices}
use Rattle.round_parts.specs.Ranks.{with_chosen}
use Rattle.charge_spec.specs.Hall.{stays_allowed}
use Rattle.hall_by_prices_spec.specs.Prices.{hall_limit, hall_relaxed}
use Rattle.hall_by_prices_spec.specs.Hall.{moved_minutes}
use Rattle.hall_look.specs.Look.{hall_for, HallPosed}
use Rattle.hall_look.specs.declared.HallSize.{HallSize}

-- whose rule it is: of a shift, or of a hall
pub data RuleFor : Type 0 where
  Shift : Extent → RuleFor
  Hall : HallSize → RuleFor

-- how many turns or windows there are, and the gap between them
unfoldable pub size_of : RuleFor → Size
size_of (Shift e) = e.size
size_of (Hall h) = h.size

-- how many prices there are
unfoldable pub prices_of : RuleFor → ℕ
prices_of (Shift e) = e.slopes + e.size.count
prices_of (Hall h) = shift_minutes

-- the change of the first round
unfoldable pub change_of : RuleFor → List ℕ → ℕ
change_of (Shift e) cols = first_change 4 (greatest_worth (turns_in e cols))
change_of (Hall h) cols = first_change 8 (greatest_worth (turns_by h.size cols))

-- the limit at some prices, for a shift by one table over all groomers' turns
unfoldable pub rule_limit : RuleFor → List ℕ → List ℕ → ℕ
rule_limit (Shift e) cols prices = price_sum (turns_in e cols) e.slopes prices + best_worth (counted_turns (turns_in e cols) e.slopes prices)
rule_limit (Hall h) cols prices = hall_limit (hall_for h cols) h.vehicles prices

-- their relaxed set
unfoldable pub relaxed_of : RuleFor → List ℕ → List ℕ → List Bool
relaxed_of (Shift e) cols prices = best_choice (counted_turns (turns_in e cols) e.slopes prices)
relaxed_of (Hall h) cols prices = hall_relaxed (hall_for h cols) prices

-- what fits beside a choice
unfoldable pub fits_of : RuleFor → List ℕ → List Bool → ℕ → Bool
fits_of (Shift e) cols = fits (turns_in e cols)
fits_of (Hall h) cols = stays_allowed (hall_for h cols)

-- the prices after a round, moved by a relaxed set
unfoldable pub moved_of : RuleFor → List ℕ → List Bool → ℕ → List ℕ → List ℕ
moved_of (Shift e) cols relaxed change prices = moved_prices (turns_in e cols) e.slopes relaxed change prices
moved_of (Hall h) cols relaxed change prices = moved_minutes (hall_for h cols) relaxed change prices

-- the choice made from a relaxed set
unfoldable pub choice_of : RuleFor → List ℕ → List Bool → List Bool
choice_of r cols relaxed = choice_from (fits_of r cols) (turns_by (size_of r) cols) relaxed

-- the list that it is made from: all turns or windows by worth, and after them those that a map has chosen
unfoldable pub choosing_list : RuleFor → List ℕ → List ℕ → List ℕ
choosing_list r cols map = with_chosen (choice_in (size_of r).count map) (by_worth (turns_by (size_of r) cols))

-- what a choice is worth
unfoldable pub rule_worth : RuleFor → List ℕ → List Bool → ℕ
rule_worth r cols S = let T = turns_by (size_of r) cols in chosen T.count S T.worth

-- the rule
unfoldable pub round_rule : RuleFor → List ℕ → RoundRule
round_rule r cols =
    record {
      limit = rule_limit r cols;
      choice = λ prices. choice_of r cols (relaxed_of r cols prices);
      worth = rule_worth r cols;
      moved = λ change prices. moved_of r cols (relaxed_of r cols prices) change prices;
    }

-- ---- as statements

-- the columns hold a shift's turns, on slopes from 1 to the last, each with a groomer and a driver that a sheet can have
pub record ShiftPosed (e : Extent) (cols : List ℕ) : Type 0 where
  pub held : Held e.size cols
  pub ranged : Ranged e.size cols
  pub few_slopes : e.slopes ≤ most_slopes
  pub numbers : (t : ℕ) → t < e.size.count → (1 ≤ (turns_in e cols).slope t) × ((turns_in e cols).slope t ≤ e.slopes)
  pub drivers : (t : ℕ) → t < e.size.count → (turns_in e cols).driver t ≤ most_driver

-- the columns hold the turns of a shift, or the windows of a hall
unfoldable pub RulePosed : RuleFor → List ℕ → Type 0
RulePosed (Shift e) cols = ShiftPosed e cols
RulePosed (Hall h) cols = HallPosed h cols

-- what does not depend on prices is there: the orders of a shift's turns
unfoldable pub OrderedFor : RuleFor → List ℕ → List ℕ → Type 0
OrderedFor (Shift e) cols orders = Ordered (turns_in e cols) orders
OrderedFor (Hall h) cols orders = length orders ≡ order_places

-- the rows of turns in conflict are there, by which a shift's choice is made
unfoldable pub RowsFor : RuleFor → List ℕ → List ℕ → Type 0
RowsFor (Shift e) cols rows = RowsOf (turns_in e cols) rows
RowsFor (Hall h) cols rows = length rows ≡ row_words
