-- The hall's limit by prices: each minute has a price, a window pays for what it draws, and the supply is then left out of account (request P-3). Assumes nothing.
use Rattle.std.specs.Prelude.{◌≡◌, ◌⊎◌, Bool, cond, List, [], ◌∷◌, ℕ, zero, suc, ◌+◌, ◌-◌, ◌*◌, ◌/◌, ◌≤◌, ◌<◌, eqb, get_or}
use Rattle.lists.specs.Lists.{sum_over, tab, below}
use Rattle.turn.specs.Turn.{shift_minutes}
use Rattle.best_spec.specs.Table.{Best, no_turns, greater, is_among}
use Rattle.charge_spec.specs.Hall.{Hall, window_count, vehicle, draw, charges_at}

-- prices are in parts of worth: so many parts are a worth of 1
abbrev pub price_parts : ℕ
price_parts = 16

-- the price of a minute
unfoldable pub minute_price : List ℕ → ℕ → ℕ
minute_price prices m = get_or prices m 0

-- what the minutes of window t cost together, for each unit drawn
unfoldable pub minutes_cost : Hall → List ℕ → ℕ → ℕ
minutes_cost H prices t = sum_over (λ m. cond (charges_at H m t) (minute_price prices m) 0) (below shift_minutes)

-- what window t pays: its draw times that, in whole worth, rounded down
unfoldable pub window_pays : Hall → List ℕ → ℕ → ℕ
window_pays H prices t = draw H t * minutes_cost H prices t / price_parts

-- what it counts for: what is left of its worth. A difference of numbers is not below 0
unfoldable pub window_counts : Hall → List ℕ → ℕ → ℕ
window_counts H prices t = H.windows.worth t - window_pays H prices t

-- a window alone
abbrev pub alone : (ℕ → ℕ) → ℕ → Best
alone counts t = record { worth = counts t; turns = t ∷ [] }

-- of the first k windows the best of vehicle v: none of them counts for more, and of those that count for as much its number is the lowest; no window where none counts for anything
unfoldable pub richest_of : Hall → (ℕ → ℕ) → ℕ → ℕ → Best
richest_of H counts v zero = no_turns
richest_of H counts v (suc k) = greater (richest_of H counts v k) (cond (eqb (vehicle H k) v) (alone counts k) no_turns)

-- of all windows, at these prices
unfoldable pub vehicle_best : Hall → List ℕ → ℕ → Best
vehicle_best H prices v = richest_of H (window_counts H prices) v (window_count H)

-- what all units cost at all minutes, in whole worth, rounded down
unfoldable pub supply_cost : Hall → List ℕ → ℕ
supply_cost H prices = H.units * sum_over (minute_price prices) (below shift_minutes) / price_parts

-- the limit: that, and for each vehicle from 1 to the last what its best window counts for
unfoldable pub hall_limit : Hall → ℕ → List ℕ → ℕ
hall_limit H vehicles prices = supply_cost H prices + sum_over (λ k. (vehicle_best H prices (k + 1)).worth) (below vehicles)

-- the relaxed set: the vehicles' windows
unfoldable pub hall_relaxed : Hall → List ℕ → List Bool
hall_relaxed H prices = tab (window_count H) (λ t. is_among (vehicle_best H prices (vehicle H t)).turns t)

-- ---- as statements

-- the most that a window of vehicle v counts for: none counts for more, and one counts for it, or it is 0
pub record MostOfVehicle (H : Hall) (prices : List ℕ) (v most : ℕ) : Type 0 where
  pub greatest : (t : ℕ) → t < window_count H → vehicle H t ≡ v → window_counts H prices t ≤ most
  pub attained : (most ≡ 0) ⊎ ((t : ℕ) × (t < window_count H) × (vehicle H t ≡ v) × (window_counts H prices t ≡ most))

-- t is the window that vehicle v takes: it counts for something, none of the vehicle's counts for more, and each that counts for as much has a higher number
pub record TakenWindow (H : Hall) (prices : List ℕ) (v t : ℕ) : Type 0 where
  pub number : t < window_count H
  pub own : vehicle H t ≡ v
  pub counts : 0 < window_counts H prices t
  pub most : (u : ℕ) → u < window_count H → vehicle H u ≡ v → window_counts H prices u ≤ window_counts H prices t
  pub lowest : (u : ℕ) → u < t → vehicle H u ≡ v → window_counts H prices u < window_counts H prices t
