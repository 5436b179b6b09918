-- The charging hall: any bytes as a charging sheet, and lent bytes for the choice map (request R-14). Assumes nothing.
use Rattle.std.specs.Prelude.{ℕ, List, [], length}
use Rattle.refusal.specs.Number.{bad_counts, too_many_turns, bad_slope, bad_draw}
use Rattle.refusal.specs.Cause.{Cause, FirstAmong}
use Rattle.wire.specs.Mark.{charging_mark}
use Rattle.sheet.specs.Kind.{Kind, first_map, most_turns}
use Rattle.sheet.specs.Read.{counts_in, turn_count, turns_of, causes_for}
use Rattle.refusal.specs.Written.{at_front}
use Rattle.sheet.specs.Accepted.{AcceptedFor, LentCauseFor}
use Rattle.choice_map.specs.Choice.{map_bytes, map_of}
use Rattle.instance_spec.specs.Problem.{problem_of}
use Rattle.charge_spec.specs.Hall.{hall_gap, most_units, most_vehicles, Hall, window_count}
use Rattle.charge_spec.specs.Plan.{hall_choice, hall_worth}
use Rattle.refusal.specs.Outcome.{Outcome, beside, unless, then_room}
use Rattle.charge_spec.specs.declared.ChargeAnswer.{ChargeAnswer}

-- a charging sheet: where a shift's has groomers and slopes, it has units and vehicles; every map is without the driver; and a draw out of range has a number of its own
unfoldable pub charging_sheet : Kind
charging_sheet =
    record {
      mark = charging_mark;
      most = record { groomers = most_units; slopes = most_vehicles; turns = most_turns };
      maps = record { first = first_map; full = first_map };
      refusals = record { counts = bad_counts; turns = too_many_turns; slope = bad_slope; groomer = bad_draw };
    }

-- the hall of a sheet: no free minutes are needed between two windows
unfoldable pub hall_of : List ℕ → Hall
hall_of s = record { units = (counts_in s).groomers; windows = problem_of hall_gap (turns_of s) }

-- after the sheet's causes: too few lent bytes for the map
unfoldable pub charge_causes : List ℕ → ℕ → List Cause
charge_causes s = then_room (causes_for charging_sheet s) (map_bytes (turn_count s))

-- the refusal and the worth, and what the lent bytes hold then
abbrev pub Charged : Type 0
Charged = Outcome ChargeAnswer (List ℕ)

-- the worth of the hall's plan, and its map, then what was there
abbrev pub hall_found : Hall → List ℕ → Charged
hall_found H lent = beside (record { refusal = 0; worth = hall_worth H }) (at_front (map_of (hall_choice H)) lent)

-- a refusal returns its number and no worth
abbrev pub charge_refused : ℕ → ChargeAnswer
charge_refused k = record { refusal = k; worth = 0 }

-- the plan of a hall, or a refusal where the lent bytes are too few for its map
unfoldable pub charge_in : Hall → List ℕ → Charged
charge_in H lent = unless (then_room [] (map_bytes (window_count H)) (length lent)) (hall_found H lent) (λ k. beside (charge_refused k) lent)

-- the plan of a sheet's hall unless a cause is there
unfoldable pub charge_of : List ℕ → List ℕ → Charged
charge_of s lent = unless (charge_causes s (length lent)) (hall_found (hall_of s) lent) (λ k. beside (charge_refused k) lent)

-- ---- as statements

-- the bytes are made as a charging sheet is made
abbrev pub AcceptedCharging : List ℕ → Type 0
AcceptedCharging = AcceptedFor charging_sheet

-- a cause to refuse is there: the sheet's, or too few lent bytes
abbrev pub ChargeCause : List ℕ → ℕ → ℕ → ℕ → Type 0
ChargeCause s = LentCauseFor charging_sheet s (map_bytes (turn_count s))

-- the first of them has number k
abbrev pub FirstChargeCause : List ℕ → ℕ → ℕ → Type 0
FirstChargeCause s places k = FirstAmong (ChargeCause s places) k
