-- The rule of a hall: how a round moves the price of each minute by what the relaxed set draws then, and which windows are chosen (request P-3). Assumes nothing.
use Rattle.std.specs.Prelude.{◌≡◌, ◌↔◌, Bool, true, cond, List, ℕ, ◌+◌, ◌-◌, ◌*◌, ◌/◌, ◌<◌, min, ltb, length, set, replicate}
use Rattle.lists.specs.Lists.{tab, below}
use Rattle.turn.specs.Turn.{shift_minutes}
use Rattle.model.specs.Choice.{has}
use Rattle.charge_spec.specs.Hall.{Hall, window_count, drawn_at, stays_allowed, AllowedChoice}
use Rattle.charge_spec.specs.Plan.{rounded_up, worth_in, hall_choice}
use Rattle.refine_spec.specs.Rounds.{RoundRule, Stage, start_from, refined, greatest_of, first_change}
use Rattle.refine_spec.specs.Selection.{choice_from, ChosenBefore}
use Rattle.hall_by_prices_spec.specs.Prices.{minute_price, hall_limit, hall_relaxed}

-- no round moves a minute's price above this
abbrev pub highest_minute_price : ℕ
highest_minute_price = 65535

-- where more than the units is drawn, the price rises by the change times the units too many, divided by all units and rounded up, to the highest at most; else it falls by the change times the units left, divided by all units and rounded down, to 0 at the lowest
unfoldable pub moved_minute : ℕ → ℕ → ℕ → ℕ → ℕ
moved_minute change units drawn price =
    cond (ltb units drawn) (min highest_minute_price (price + rounded_up (change * (drawn - units)) units)) (price - change * (units - drawn) / units)

-- all prices after a round
unfoldable pub moved_minutes : Hall → List Bool → ℕ → List ℕ → List ℕ
moved_minutes H S change prices = tab shift_minutes (λ m. moved_minute change H.units (drawn_at H S m) (minute_price prices m))

-- the rule
unfoldable pub hall_rule : Hall → ℕ → RoundRule
hall_rule H vehicles =
    record {
      limit = hall_limit H vehicles;
      choice = λ prices. choice_from (stays_allowed H) H.windows (hall_relaxed H prices);
      worth = worth_in H;
      moved = λ change prices. moved_minutes H (hall_relaxed H prices) change prices;
    }

-- before the first look: every price is 0, the change is an eighth of the greatest worth, rounded up, in sixteenths, as the prices are, and the choice is that of the hall's plan
unfoldable pub hall_start : Hall → ℕ → Stage
hall_start H vehicles = start_from (hall_rule H vehicles) (first_change 8 (greatest_of H.windows.worth (below (window_count H)))) (replicate shift_minutes 0) (hall_choice H)

-- at most so many rounds from there
unfoldable pub hall_refined : Hall → ℕ → ℕ → Stage
hall_refined H vehicles rounds = refined (hall_rule H vehicles) rounds (hall_start H vehicles)

-- ---- as statements

-- S is chosen so: each window that is allowed together with the chosen windows that are asked before it, and no other. E has those windows; with t set it has t too. There is exactly one such E (`chosen_before`, `before_same`)
pub record WindowsFrom (H : Hall) (relaxed S : List Bool) : Type 0 where
  pub places : length S ≡ window_count H
  pub exactly : (t : ℕ) → t < window_count H →
      (has S t ≡ true) ↔ ((E : List Bool) → ChosenBefore H.windows relaxed S t E → AllowedChoice H (set E t true))
