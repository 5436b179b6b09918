-- charge_limit: the limit of any bytes as a charging sheet and any numbers as a price list.
use mathlib.Core.Path.{refl}
use Rattle.refusal.proofs.Numbers.{no_zero}
use Rattle.charge_spec.proofs.ChargingSheets.{charging_given}
use Rattle.hall_by_prices.proofs.EntryCases.{hall_posed, limit_fault, limit_other, limit_found}
use borrow.Author.Rules.{rules}
use Rattle.hall_by_prices.proofs.limit.charge_limit.Goals as goal

pub load_as-requires : goal.load_as-requires
load_as-requires c = search (rules, charging_given)

pub returns-in-Err : goal.returns-in-Err
returns-in-Err c = limit_fault _ _ c.charging_sheet.ensures c.in-Err.ensures.0 (no_zero c.in-Err.fault) c.refused.ensures

pub returns-then-prices-ne-MINUTES : goal.returns-then-prices-ne-MINUTES
returns-then-prices-ne-MINUTES c = limit_other _ _ c.charging_sheet.ensures c.in-Ok.ensures.0 refl c.if-prices-ne-MINUTES.true c.refused-then-prices-ne-MINUTES.ensures

pub limit_at-requires : goal.limit_at-requires
limit_at-requires c = (hall_posed _ c.charging_sheet.ensures c.in-Ok.ensures.0 refl _ c.in-Ok.ensures.1, c.if-prices-ne-MINUTES.false)

pub returns : goal.returns
returns c = limit_found _ _ c.charging_sheet.ensures c.in-Ok.ensures.0 refl _ c.in-Ok.ensures.1 c.if-prices-ne-MINUTES.false c.limit_at.ensures
