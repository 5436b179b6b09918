-- What a limit by prices promises, of the entry's own answer (request P-1). Assumes nothing.
use Rattle.std.specs.Prelude.{◌≡◌, ◌≢◌, List, ℕ, ◌+◌, ◌≤◌, ◌<◌, length, get_or}
use Rattle.lists.specs.Lists.{sum_over, below}
use Rattle.model.specs.Feasible.{Feasible, worth_of}
use Rattle.sheet.specs.Read.{counts_in, turn_count}
use Rattle.board.specs.Board.{board_worth}
use Rattle.instance_spec.specs.Problem.{sheet_turns}
use Rattle.check_spec.specs.Check.{Passes}
use Rattle.best_spec.specs.Groomers.{groomer_worth, groomers_worth}
use Rattle.best_spec.specs.Best.{best_of}
use Rattle.limit_spec.specs.Prices.{turn_price, priced_turns, price_sum, MostCounted}
use Rattle.limit_spec.specs.Limit.{limit_of}

-- every price is 0
abbrev pub AllFree : List ℕ → Type 0
AllFree prices = (k : ℕ) → get_or prices k 0 ≡ 0

-- two price lists of one length that have the same prices of all slopes, and of all turns that name a driver
pub record SameWherePaid (s prices other : List ℕ) : Type 0 where
  pub lengths : length other ≡ length prices
  pub slopes : (k : ℕ) → k < (counts_in s).slopes → get_or other k 0 ≡ get_or prices k 0
  pub turns : (u : ℕ) → u < turn_count s → (sheet_turns s).driver u ≢ 0 → turn_price (counts_in s).slopes other u ≡ turn_price (counts_in s).slopes prices u

-- what the table over groomer g's own turns gives at their counts
abbrev pub priced_worth : List ℕ → List ℕ → ℕ → ℕ
priced_worth s prices g = groomer_worth (priced_turns (sheet_turns s) (counts_in s).slopes prices) g

-- of an answer that refuses nothing, whatever the prices
pub record LimitPromised (s prices : List ℕ) : Type 0 where
  -- no feasible set of the sheet's turns is worth more than the limit
  pub within : (R : List ℕ) → Feasible (sheet_turns s) R → worth_of (sheet_turns s) R ≤ (limit_of s prices).limit
  -- nor is a board that passes the check for this sheet, whoever made it
  pub boards_within : (b : List ℕ) → Passes s b → board_worth b ≤ (limit_of s prices).limit
  -- it is the prices and, for each groomer from 1 on, what its own turns count for at best
  pub parts : (limit_of s prices).limit ≡ price_sum (sheet_turns s) (counts_in s).slopes prices + sum_over (λ k. priced_worth s prices (k + 1)) (below (counts_in s).groomers)
  -- that is the most that a set of the groomer's turns counts for, no two of which conflict by groomer
  pub groomer_most : (g : ℕ) → MostCounted (sheet_turns s) (counts_in s).slopes prices g (priced_worth s prices g)
  -- what stands in the list for turns without a driver plays no part
  pub driverless : (other : List ℕ) → SameWherePaid s prices other → limit_of s other ≡ limit_of s prices
  -- where all prices are 0, it is the sum over the groomers of the best of their turns at their worths
  pub free : AllFree prices → (limit_of s prices).limit ≡ groomers_worth (sheet_turns s) (counts_in s).groomers
  -- and, on a sheet that the best worth's entry does not refuse, that entry's worth
  pub free_best : AllFree prices → (lent : List ℕ) → (best_of s lent).answer.refusal ≡ 0 → (limit_of s prices).limit ≡ (best_of s lent).answer.worth
