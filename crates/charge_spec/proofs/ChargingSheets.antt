-- The charging sheet is a kind of sheet, and the ranges of one that is not refused: units, vehicles and draws. Assumes nothing.
use Prim.Native.Nat.{ℕ, ◌<◌, ◌≤◌}
use mathlib.Core.Path.{◌≡◌}
use mathlib.Core.List.{List}
use native.Mathlib.Omega.{arith}
use Rattle.refusal.specs.Cause.{first_of}
use Rattle.sheet.specs.Kind.{Kind, three, Sound}
use Rattle.sheet.specs.Read.{counts_in, turn_count, turns_of, causes_for}
use Rattle.sheet.proofs.Unrefused.{legal_header}
use Rattle.instance_spec.specs.Problem.{problem_of}
use Rattle.instance_spec.proofs.SheetTurns.{sheet_slopes_for, sheet_groomers_for}
use Rattle.charge_spec.specs.Hall.{hall_gap, most_units, most_vehicles}
use Rattle.charge_spec.specs.Charge.{charging_sheet}

-- ---- the sheet's kind

pub charging_sound : Sound charging_sheet
unfolding charging_sheet
charging_sound =
    record {
      mark = three {a = 0x47} {b = 0x52} {c = 0x45} (omega arith) (omega arith) (omega arith);
      groomers = omega arith;
      slopes = omega arith;
      turns = omega arith;
      numbers = record { counts = omega arith; turns = omega arith; slope = omega arith; groomer = omega arith };
    }

pub charging_given : {K : Kind} → K ≡ charging_sheet → Sound K
charging_given e = rw e charging_sound

-- ---- a sheet that is not refused

module _ (s : List ℕ) (z : first_of (causes_for charging_sheet s) ≡ 0) where
  pub units_of : (1 ≤ (counts_in s).groomers) × ((counts_in s).groomers ≤ most_units)
  unfolding charging_sheet
  units_of = let h = legal_header charging_sheet charging_sound s z in (h.groomers_from_lem, h.groomers_to)

  pub vehicles_of : (counts_in s).slopes ≤ most_vehicles
  unfolding charging_sheet
  vehicles_of = (legal_header charging_sheet charging_sound s z).slopes_to

  pub vehicle_of : (t : ℕ) → t < turn_count s → (problem_of hall_gap (turns_of s)).slope t ≤ most_vehicles
  vehicle_of t l = omega (arith, sheet_slopes_for charging_sheet charging_sound hall_gap s z t l, vehicles_of)

  pub draw_of_lem : (t : ℕ) → t < turn_count s → (1 ≤ (problem_of hall_gap (turns_of s)).groomer t) × ((problem_of hall_gap (turns_of s)).groomer t ≤ (counts_in s).groomers)
  draw_of_lem t l = sheet_groomers_for charging_sheet charging_sound hall_gap s z t l
