-- A limit by prices: each slope and each turn has a price, a turn pays for what it uses, and slopes and drivers are then left out of account (request P-1). Assumes nothing.
use Rattle.std.specs.Prelude.{◌≡◌, ◌≢◌, Bool, cond, ◌&&◌, List, ℕ, ◌+◌, ◌-◌, ◌≤◌, ◌<◌, ltb, leb, get_or}
use Rattle.lists.specs.Lists.{sum_over, below, All}
use Rattle.model.specs.Turns.{Turns, by_driver, Holds, OneDriver}
use Rattle.model.specs.Feasible.{Distinct}
use Rattle.best_spec.specs.Groomers.{groomers_worth}

-- the greatest price that a list can hold, the greatest 16-bit number
abbrev pub most_price : ℕ
most_price = 65535

-- the price of slope s: slopes are numbered from 1, and their prices come first
unfoldable pub slope_price : List ℕ → ℕ → ℕ
slope_price prices s = get_or prices (s - 1) 0

-- the price of turn u, after those of so many slopes
unfoldable pub turn_price : ℕ → List ℕ → ℕ → ℕ
turn_price slopes prices u = get_or prices (slopes + u) 0

-- turn t pays the price of turn u: one driver has both, they overlap, as a turn does with itself, and u ends no later
unfoldable pub pays_turn : Turns → ℕ → ℕ → Bool
pays_turn T u t = by_driver T u t && leb (T.end u) (T.end t)

-- what turn t pays: its slope's price, and the price of each turn that it pays
unfoldable pub paid_by : Turns → ℕ → List ℕ → ℕ → ℕ
paid_by T slopes prices t = slope_price prices (T.slope t) + sum_over (λ u. cond (pays_turn T u t) (turn_price slopes prices u) 0) (below T.count)

-- what it counts for: what is left of its worth. A difference of numbers is not below 0
unfoldable pub counts_for : Turns → ℕ → List ℕ → ℕ → ℕ
counts_for T slopes prices t = T.worth t - paid_by T slopes prices t

-- the turns at these counts, where only the groomer can be in the way: no two share a slope, and none has a driver
unfoldable pub priced_turns : Turns → ℕ → List ℕ → Turns
priced_turns T slopes prices =
    record { count = T.count; gap = T.gap; slope = λ t. t; groomer = T.groomer; start = T.start; end = T.end; worth = counts_for T slopes prices; driver = λ t. 0 }

-- the prices that the limit has in it: every slope's, and every turn's that has a driver
unfoldable pub price_sum : Turns → ℕ → List ℕ → ℕ
price_sum T slopes prices = sum_over (λ k. slope_price prices (k + 1)) (below slopes) + sum_over (λ u. cond (ltb 0 (T.driver u)) (turn_price slopes prices u) 0) (below T.count)

-- the limit: these prices, and of groomers 1 to the last what each one's own turns count for at best
unfoldable pub limit_by : Turns → ℕ → ℕ → List ℕ → ℕ
limit_by T groomers slopes prices = price_sum T slopes prices + groomers_worth (priced_turns T slopes prices) groomers

-- ---- as statements

-- turn t pays the price of turn u: both name one driver, both hold some minute, each lengthened by the gap, and u ends no later
pub record Pays (T : Turns) (u t : ℕ) : Type 0 where
  pub driver : OneDriver T u t
  pub minute : ℕ
  pub holds : Holds T u minute
  pub holds_too : Holds T t minute
  pub no_later : T.end u ≤ T.end t

-- a set of groomer g's turns, each at most once, of which no two hold one minute, each lengthened by the gap: no two conflict by groomer
pub record GroomerSet (T : Turns) (g : ℕ) (R : List ℕ) : Type 0 where
  pub numbers : All (λ t. t < T.count) R
  pub own : All (λ t. T.groomer t ≡ g) R
  pub once : Distinct R
  pub apart : All (λ t. All (λ u. t ≢ u → (minute : ℕ) → Holds T t minute → Holds T u minute → ⊥) R) R

-- the most that such a set counts for: some set counts for it, and none for more
pub record MostCounted (T : Turns) (slopes : ℕ) (prices : List ℕ) (g most : ℕ) : Type 0 where
  pub attained : (R : List ℕ) × GroomerSet T g R × (sum_over (counts_for T slopes prices) R ≡ most)
  pub greatest : (R : List ℕ) → GroomerSet T g R → sum_over (counts_for T slopes prices) R ≤ most
