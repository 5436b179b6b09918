-- The limit's entry: any bytes as a sheet, and any numbers as a price list (request P-1). Assumes nothing.
use Rattle.std.specs.Prelude.{ℕ, ◌+◌, ◌≢◌, not, List, [], ◌∷◌, ◌++◌, length, eqb}
use Rattle.refusal.specs.Number.{bad_prices}
use Rattle.refusal.specs.Cause.{Cause, ◌when◌, FirstAmong}
use Rattle.sheet.specs.Read.{counts_in, turn_count, sheet_causes}
use Rattle.sheet.specs.Accepted.{MoreCause}
use Rattle.instance_spec.specs.Problem.{sheet_turns}
use Rattle.limit_spec.specs.declared.LimitAnswer.{LimitAnswer}
use Rattle.limit_spec.specs.Prices.{limit_by}
use Rattle.refusal.specs.Outcome.{unless}

-- how many prices a sheet has: one for each slope, then one for each turn
abbrev pub price_count : List ℕ → ℕ
price_count s = (counts_in s).slopes + turn_count s

-- after the sheet's causes: a list of another length
unfoldable pub limit_causes : List ℕ → List ℕ → List Cause
limit_causes s prices = sheet_causes s ++ bad_prices when not (eqb (length prices) (price_count s)) ∷ []

-- the limit of a sheet's turns at these prices
unfoldable pub sheet_limit : List ℕ → List ℕ → ℕ
sheet_limit s prices = limit_by (sheet_turns s) (counts_in s).groomers (counts_in s).slopes prices

-- the limit, and no refusal
abbrev pub limit_is : ℕ → LimitAnswer
limit_is limit = record { refusal = 0; limit = limit }

-- a refusal returns its number and no limit
abbrev pub limit_refused : ℕ → LimitAnswer
limit_refused k = record { refusal = k; limit = 0 }

-- the limit unless a cause is there
unfoldable pub limit_of : List ℕ → List ℕ → LimitAnswer
limit_of s prices = unless (limit_causes s prices) (limit_is (sheet_limit s prices)) limit_refused

-- ---- as statements

-- a cause to refuse is there, at its place in the order: the sheet's, then a list of another length
abbrev pub LimitCause : List ℕ → List ℕ → ℕ → ℕ → Type 0
LimitCause s prices = MoreCause s bad_prices (length prices ≢ price_count s)

-- the first of them has number k
abbrev pub FirstLimitCause : List ℕ → List ℕ → ℕ → Type 0
FirstLimitCause s prices k = FirstAmong (LimitCause s prices) k
