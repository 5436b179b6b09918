-- A step by shares, in columns and of rows. For inner functions only (request R-14). Assumes nothing.
use Rattle.std.specs.Prelude.{◌≡◌, cond, List, ℕ, ◌*◌, ◌≤◌, ◌<◌, eqb, length, get_or}
use Rattle.model.specs.Turns.{overlapping}
use Rattle.instance.specs.declared.ways.Row.{Row}
use Rattle.instance.specs.declared.columns.Size.{Size}
use Rattle.instance.specs.Columns.{turns_by}
use Rattle.charge_spec.specs.Hall.{hall_gap, most_units, Hall}
use Rattle.charge_spec.specs.Plan.{rounded_up}

-- the hall in some columns: its units, and its windows
abbrev pub hall_by : ℕ → Size → List ℕ → Hall
hall_by units p cols = record { units = units; windows = turns_by p cols }

-- what a step on a window of row x for an amount takes from one of row y: the amount if they are of one vehicle, else y's share if they have a minute in common
unfoldable pub row_takes : ℕ → Row → ℕ → Row → ℕ
row_takes units x amount y = cond (eqb x.slope y.slope) amount (cond (overlapping hall_gap x.start x.end y.start y.end) (rounded_up (2 * y.groomer * amount) units) 0)

-- the places for shares, by draws from 0 on
abbrev pub share_places : ℕ
share_places = 25

-- ---- as statements

-- the shares of an amount by the first k draws, as far as these are at most half of the units
pub record SharesTo (units amount k : ℕ) (shares : List ℕ) : Type 0 where
  pub places : length shares ≡ share_places
  pub each : (d : ℕ) → d < k → 2 * d ≤ units → (get_or shares d 0 ≡ rounded_up (2 * d * amount) units) × (get_or shares d 0 ≤ amount)

-- by all of them
pub record SharesBy (units amount : ℕ) (shares : List ℕ) : Type 0 where
  pub places : length shares ≡ share_places
  pub each : (d : ℕ) → 2 * d ≤ units → (get_or shares d 0 ≡ rounded_up (2 * d * amount) units) × (get_or shares d 0 ≤ amount)

-- columns of windows in a hall of so many units, none of which draws more than half of them
pub record HalfDraws (units : ℕ) (p : Size) (cols : List ℕ) : Type 0 where
  pub units_from : 1 ≤ units
  pub units_to : units ≤ most_units
  pub draws : (t : ℕ) → t < p.count → 2 * (turns_by p cols).groomer t ≤ units
