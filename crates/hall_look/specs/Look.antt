-- How the functions hold sums of prices, what windows count for, and the vehicles' best windows; for inner functions only (request P-3). Assumes nothing.
use Rattle.std.specs.Prelude.{◌≡◌, List, [], ◌∷◌, ℕ, zero, suc, ◌+◌, ◌-◌, ◌*◌, ◌/◌, ◌≤◌, ◌<◌, length, get_or}
use Rattle.lists.specs.Lists.{sum_over, below}
use Rattle.turn.specs.Turn.{shift_minutes, most_worth}
use Rattle.choice_map.specs.Choice.{with_turn}
use Rattle.instance.specs.declared.ways.Row.{Row}
use Rattle.charge_spec.specs.Hall.{most_units, most_vehicles, Hall}
use Rattle.shares.specs.Taking.{hall_by}
use Rattle.hall_steps.specs.Bounds.{HallHeld}
use Rattle.hall_by_prices_spec.specs.Prices.{price_parts, minute_price, window_counts, richest_of, vehicle_best}
use Rattle.limit_spec.specs.Prices.{most_price}
use Rattle.hall_look.specs.declared.HallSize.{HallSize}

-- a sum before each minute, and one of all
abbrev pub sum_places : ℕ
sum_places = shift_minutes + 1

-- a place for each number of a vehicle, 0 to the greatest
abbrev pub vehicle_places : ℕ
vehicle_places = most_vehicles + 1

-- the hall in the columns
abbrev pub hall_for : HallSize → List ℕ → Hall
hall_for h cols = hall_by h.units h.size cols

-- the prices of the minutes before m together
unfoldable pub prices_below : List ℕ → ℕ → ℕ
prices_below prices m = sum_over (minute_price prices) (below m)

-- what a row's minutes cost together
abbrev pub row_cost : List ℕ → Row → ℕ
row_cost prices r = prices_below prices r.end - prices_below prices r.start

-- what a row counts for, as window_counts says of windows
unfoldable pub row_counts : List ℕ → Row → ℕ
row_counts prices r = r.worth - r.groomer * row_cost prices r / price_parts

-- what the first n vehicles' best windows count for together
unfoldable pub bests_sum : List ℕ → ℕ → ℕ
bests_sum most n = sum_over (λ k. get_or most (k + 1) 0) (below n)

-- no window, or the one before a number
unfoldable pub window_before : ℕ → List ℕ
window_before zero = []
window_before (suc t) = t ∷ []

-- a map with the window before a number set too, as before for 0
unfoldable pub with_before : ℕ → List ℕ → List ℕ
with_before zero map = map
with_before (suc t) map = with_turn map t

-- ---- as statements

-- the columns hold the windows of a hall with so many vehicles
pub record HallPosed (h : HallSize) (cols : List ℕ) : Type 0 where
  pub held : HallHeld h.units h.size cols
  pub vehicles : h.vehicles ≤ most_vehicles

-- the sums of the prices
pub record MinuteSums (prices sums : List ℕ) : Type 0 where
  pub places : length sums ≡ sum_places
  pub values : (m : ℕ) → m ≤ shift_minutes → get_or sums m 0 ≡ prices_below prices m
  pub most : prices_below prices shift_minutes ≤ shift_minutes * most_price

-- as far as minute k they are there, and the last of them is sum
pub record MinuteSumsTo (prices sums : List ℕ) (k sum_over : ℕ) : Type 0 where
  pub within : k ≤ shift_minutes
  pub places : length sums ≡ sum_places
  pub values : (m : ℕ) → m ≤ k → get_or sums m 0 ≡ prices_below prices m
  pub is : sum_over ≡ prices_below prices k
  pub most : sum_over ≤ k * most_price

-- a row with the draw, the minutes and the worth that a window of a hall can have
pub record WindowRow (r : Row) : Type 0 where
  pub draw : r.groomer ≤ most_units
  pub starts : r.start < r.end
  pub ends : r.end ≤ shift_minutes
  pub worth : r.worth ≤ most_worth
  pub vehicle : r.slope ≤ most_vehicles

-- of the first k windows at these prices: what each vehicle's best counts for, and which it is, one more than its number
pub record Bests (H : Hall) (prices : List ℕ) (k : ℕ) (most taken : List ℕ) : Type 0 where
  pub places : length most ≡ vehicle_places
  pub places_too : length taken ≡ vehicle_places
  pub values : (v : ℕ) → v ≤ most_vehicles → get_or most v 0 ≡ (richest_of H (window_counts H prices) v k).worth
  pub windows : (v : ℕ) → v ≤ most_vehicles → window_before (get_or taken v 0) ≡ (richest_of H (window_counts H prices) v k).turns

-- which window each vehicle takes at some prices, one more than its number, 0 for none
pub record WindowsTaken (H : Hall) (prices : List ℕ) (taken : List ℕ) : Type 0 where
  pub places : length taken ≡ vehicle_places
  pub windows : (v : ℕ) → v ≤ most_vehicles → window_before (get_or taken v 0) ≡ (vehicle_best H prices v).turns
