-- charge_refine: makes at most so many rounds for any bytes as a charging sheet, and writes the best set and the prices of the lowest limit into any lent places.
use mathlib.Core.Path.{refl}
use Rattle.refusal.proofs.Numbers.{no_zero}
use Rattle.charge_spec.proofs.ChargingSheets.{charging_given}
use Rattle.hall_by_prices.proofs.EntryCases.{hall_posed}
use Rattle.hall_by_prices.proofs.RefineCases.{refine_fault, refine_short, refine_few, refine_done}
use borrow.Author.Rules.{rules}
use Rattle.hall_by_prices.proofs.refine.charge_refine.Goals as goal

pub load_as-requires : goal.load_as-requires
load_as-requires c = search (rules, charging_given)

pub returns-in-Err : goal.returns-in-Err
returns-in-Err c = refine_fault _ _ _ _ c.charging_sheet.ensures c.in-Err.ensures.0 (no_zero c.in-Err.fault) c.refused.ensures

pub returns-then-map-map_bytes : goal.returns-then-map-map_bytes
returns-then-map-map_bytes c =
    refine_short _ _ _ _ c.charging_sheet.ensures c.in-Ok.ensures.0 refl c.map_bytes.ensures c.if-map-map_bytes.true c.refused-then-map-map_bytes.ensures

pub returns-then-prices-lt-MINUTES : goal.returns-then-prices-lt-MINUTES
returns-then-prices-lt-MINUTES c =
    refine_few _ _ _ _ c.charging_sheet.ensures c.in-Ok.ensures.0 refl c.if-prices-lt-MINUTES.true c.refused-then-prices-lt-MINUTES.ensures

pub refine_hall-requires : goal.refine_hall-requires
refine_hall-requires c = record { hall_posed = (hall_posed _ c.charging_sheet.ensures c.in-Ok.ensures.0 refl _ c.in-Ok.ensures.1, search rules, search rules) }

pub returns : goal.returns
returns c =
    refine_done _ _ _ _ c.charging_sheet.ensures c.in-Ok.ensures.0 refl c.map_bytes.ensures _ c.in-Ok.ensures.1 c.if-map-map_bytes.false c.if-prices-lt-MINUTES.false c.refine_hall.ensures
