-- The hall by rounds as an entry: any bytes as a charging sheet, any number of rounds, lent bytes for the choice map and lent numbers for the price list (request P-3). Assumes nothing.
use Rattle.std.specs.Prelude.{ℕ, ◌<◌, ◌||◌, List, [], ◌∷◌, ◌++◌, length, ltb}
use Rattle.refusal.specs.Number.{buffer_too_small}
use Rattle.refusal.specs.Cause.{Cause, ◌when◌, FirstAmong}
use Rattle.refusal.specs.Outcome.{unless}
use Rattle.turn.specs.Turn.{shift_minutes}
use Rattle.sheet.specs.Read.{counts_in, turn_count, causes_for}
use Rattle.refusal.specs.Written.{at_front}
use Rattle.sheet.specs.Accepted.{MoreCauseFor}
use Rattle.choice_map.specs.Choice.{map_bytes, map_of}
use Rattle.charge_spec.specs.Charge.{charging_sheet, hall_of}
use Rattle.refine_spec.specs.Rounds.{Stage}
use Rattle.hall_by_prices_spec.specs.Hall.{hall_refined}

-- after the sheet's causes: too few lent bytes for the map, or fewer lent numbers than minutes
unfoldable pub charge_refine_causes : List ℕ → ℕ → ℕ → List Cause
charge_refine_causes s bytes numbers = causes_for charging_sheet s ++ buffer_too_small when (ltb bytes (map_bytes (turn_count s)) || ltb numbers shift_minutes) ∷ []

-- the refusal, 0 if none; else what the set is worth, the lowest limit and how many rounds were made; and what the lent bytes and the lent numbers hold then
pub record ChargeRefinement : Type 0 where
  pub refusal : ℕ
  pub worth : ℕ
  pub limit : ℕ
  pub rounds : ℕ
  pub map : List ℕ
  pub prices : List ℕ

-- what the rounds came to, written and returned
unfoldable pub charge_refinement : Stage → List ℕ → List ℕ → ChargeRefinement
charge_refinement x map prices =
    record { refusal = 0; worth = x.worth; limit = x.limit; rounds = x.rounds; map = at_front (map_of x.choice) map; prices = at_front x.list prices }

-- a refusal, and all that is lent as before
abbrev pub not_charge_refined : ℕ → List ℕ → List ℕ → ChargeRefinement
not_charge_refined k map prices = record { refusal = k; worth = 0; limit = 0; rounds = 0; map = map; prices = prices }

-- for a charging sheet, unless a cause is there
unfoldable pub charge_refine_of : List ℕ → ℕ → List ℕ → List ℕ → ChargeRefinement
charge_refine_of s rounds map prices =
    unless (charge_refine_causes s (length map) (length prices)) (charge_refinement (hall_refined (hall_of s) (counts_in s).slopes rounds) map prices) (λ k. not_charge_refined k map prices)

-- ---- as statements

-- one of the lent places is too short
pub data HallPlacesFail (s : List ℕ) (bytes numbers : ℕ) : Type 0 where
  few_bytes : bytes < map_bytes (turn_count s) → HallPlacesFail s bytes numbers
  few_prices : numbers < shift_minutes → HallPlacesFail s bytes numbers

-- a cause to refuse is there, at its place in the order: the sheet's, then a lent place that is too short
abbrev pub ChargeRefineCause : List ℕ → ℕ → ℕ → ℕ → ℕ → Type 0
ChargeRefineCause s bytes numbers = MoreCauseFor charging_sheet s buffer_too_small (HallPlacesFail s bytes numbers)

-- the first of them has number k
abbrev pub FirstChargeRefineCause : List ℕ → ℕ → ℕ → ℕ → Type 0
FirstChargeRefineCause s bytes numbers k = FirstAmong (ChargeRefineCause s bytes numbers) k
