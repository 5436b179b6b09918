-- What a set draws at each minute, and the moves of prices, as the functions hold them; for inner functions only (request P-3). Assumes nothing.
use Rattle.std.specs.Prelude.{◌≡◌, Bool, cond, List, ℕ, ◌+◌, ◌-◌, ◌*◌, ◌/◌, ◌≤◌, ◌<◌, min, ltb, length, get_or}
use Rattle.lists.specs.Lists.{tab, FilledTo}
use Rattle.turn.specs.Turn.{shift_minutes, most_worth}
use Rattle.sheet.specs.Kind.{most_turns}
use Rattle.charge_spec.specs.Hall.{most_units, Hall, drawn_at}
use Rattle.charge_spec.specs.Plan.{rounded_up}
use Rattle.hall_by_prices_spec.specs.Prices.{minute_price}
use Rattle.hall_by_prices_spec.specs.Hall.{highest_minute_price}
use Rattle.limit_spec.specs.Prices.{most_price}

-- the most that windows draw at a minute: all of them, and all units each
abbrev pub most_drawn : ℕ
most_drawn = most_turns * most_units

-- a move is held as a number: this one is none, what is above it is up, what is below it down
abbrev pub no_move : ℕ
no_move = most_worth * most_units

-- the move of the price of a minute at which so much is drawn: up where that is more than the units, else down
unfoldable pub move_by : ℕ → ℕ → ℕ → ℕ
move_by change units drawn = cond (ltb units drawn) (no_move + rounded_up (change * (drawn - units)) units) (no_move - change * (units - drawn) / units)

-- never more than this
abbrev pub most_move : ℕ
most_move = no_move + most_worth * most_drawn + most_units

-- a place for each draw up to four times the most units
abbrev pub move_places : ℕ
move_places = 4 * most_units + 1

-- all prices after the moves of a list
unfoldable pub moved_by : List ℕ → List ℕ → List ℕ
moved_by by prices = tab shift_minutes (λ m. min highest_minute_price (minute_price prices m + get_or by m 0 - no_move))

-- ---- as statements

-- the move for each draw below k
abbrev pub MovesTo : ℕ → ℕ → List ℕ → ℕ → Type 0
MovesTo units change = FilledTo (move_by change units) move_places

-- the moves of the first k minutes, where a list has what is drawn at each
abbrev pub EachTo : ℕ → ℕ → List ℕ → List ℕ → ℕ → Type 0
EachTo units change drawn = FilledTo (λ m. move_by change units (get_or drawn m 0)) shift_minutes

-- no minute's move is more than the most
unfoldable pub FewMoves : List ℕ → Type 0
FewMoves by = (m : ℕ) → m < shift_minutes → get_or by m 0 ≤ most_move

-- the prices are 16-bit numbers
unfoldable pub PricesFit : List ℕ → Type 0
PricesFit prices = (m : ℕ) → m < shift_minutes → get_or prices m 0 ≤ most_price

-- at no minute more is drawn than windows can draw
unfoldable pub FewDrawn : List ℕ → Type 0
FewDrawn drawn = (m : ℕ) → m < shift_minutes → get_or drawn m 0 ≤ most_drawn

-- at each minute one window more can draw
unfoldable pub RoomForMore : List ℕ → Type 0
RoomForMore drawn = (m : ℕ) → m < shift_minutes → get_or drawn m 0 + most_units ≤ most_drawn

-- what a set draws at each minute
pub record DrawnBy (H : Hall) (S : List Bool) (drawn : List ℕ) : Type 0 where
  pub places : length drawn ≡ shift_minutes
  pub values : (m : ℕ) → m < shift_minutes → get_or drawn m 0 ≡ drawn_at H S m
  pub few : FewDrawn drawn
