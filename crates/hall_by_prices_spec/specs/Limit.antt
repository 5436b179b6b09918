-- The hall's limit as an entry: any bytes as a charging sheet, and any numbers as a price list (request P-3). Assumes nothing.
use Rattle.std.specs.Prelude.{ℕ, ◌≢◌, not, List, [], ◌∷◌, ◌++◌, length, eqb}
use Rattle.refusal.specs.Number.{bad_prices}
use Rattle.refusal.specs.Cause.{Cause, ◌when◌, FirstAmong}
use Rattle.refusal.specs.Outcome.{unless}
use Rattle.turn.specs.Turn.{shift_minutes}
use Rattle.sheet.specs.Read.{counts_in, causes_for}
use Rattle.sheet.specs.Accepted.{MoreCauseFor}
use Rattle.limit_spec.specs.declared.LimitAnswer.{LimitAnswer}
use Rattle.limit_spec.specs.Limit.{limit_is, limit_refused}
use Rattle.charge_spec.specs.Charge.{charging_sheet, hall_of}
use Rattle.hall_by_prices_spec.specs.Prices.{hall_limit}

-- after the sheet's causes: a list that has not one number for each minute
unfoldable pub charge_limit_causes : List ℕ → List ℕ → List Cause
charge_limit_causes s prices = causes_for charging_sheet s ++ bad_prices when not (eqb (length prices) shift_minutes) ∷ []

-- the limit of a sheet's hall at these prices
unfoldable pub sheet_hall_limit : List ℕ → List ℕ → ℕ
sheet_hall_limit s prices = hall_limit (hall_of s) (counts_in s).slopes prices

-- the limit unless a cause is there
unfoldable pub charge_limit_of : List ℕ → List ℕ → LimitAnswer
charge_limit_of s prices = unless (charge_limit_causes s prices) (limit_is (sheet_hall_limit s prices)) limit_refused

-- ---- as statements

-- a cause to refuse is there, at its place in the order: the sheet's, then a list of another length
abbrev pub ChargeLimitCause : List ℕ → List ℕ → ℕ → ℕ → Type 0
ChargeLimitCause s prices = MoreCauseFor charging_sheet s bad_prices (length prices ≢ shift_minutes)

-- the first of them has number k
abbrev pub FirstChargeLimitCause : List ℕ → List ℕ → ℕ → Type 0
FirstChargeLimitCause s prices k = FirstAmong (ChargeLimitCause s prices) k
