-- What the hall's functions ask of the columns that they are lent. For inner functions only (request R-14). Assumes nothing.
use Rattle.std.specs.Prelude.{◌≡◌, List, ℕ, ◌≤◌, ◌<◌}
use Rattle.instance.specs.declared.columns.Size.{Size}
use Rattle.instance.specs.Columns.{turns_by, Held}
use Rattle.charge_spec.specs.Hall.{hall_gap, most_units, most_vehicles}

-- columns that hold a hall's windows within what every charging sheet keeps to
pub record HallHeld (units : ℕ) (p : Size) (cols : List ℕ) : Type 0 where
  pub held : Held p cols
  pub gapless : p.gap ≡ hall_gap
  pub units_from : 1 ≤ units
  pub units_to : units ≤ most_units
  pub vehicles : (t : ℕ) → t < p.count → (turns_by p cols).slope t ≤ most_vehicles
  pub draws : (t : ℕ) → t < p.count → (turns_by p cols).groomer t ≤ units
