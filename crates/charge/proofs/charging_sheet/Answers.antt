-- charging_sheet: a charging sheet: its first count is the hall's units, its second the vehicles, and a window's second field is its draw.
use mathlib.Core.Path.{refl}
use Rattle.charge_spec.specs.Charge.{charging_sheet}
use Rattle.charge.proofs.charging_sheet.Goals as goal

pub returns : goal.returns
unfolding charging_sheet
returns c = refl
