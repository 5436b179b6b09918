-- charge: plans any bytes as a charging sheet: the worth of the hall's plan, and its choice map into any lent bytes.
use mathlib.Core.Path.{refl}
use Rattle.refusal.proofs.Numbers.{no_zero}
use Rattle.charge_spec.proofs.ChargingSheets.{charging_given}
use Rattle.charge.proofs.Charges.{charge_fault, charge_held, charge_found}
use borrow.Author.Rules.{rules}
use Rattle.charge.proofs.charge.Goals as goal

pub load_as-requires : goal.load_as-requires
load_as-requires c = search (rules, charging_given)

pub returns-in-Err : goal.returns-in-Err
returns-in-Err c = charge_fault _ c.charging_sheet.ensures c.in-Err.ensures.0 _ (no_zero c.in-Err.fault) c.refused.ensures

pub answer-requires : goal.answer-requires
answer-requires c = charge_held _ c.charging_sheet.ensures c.in-Ok.ensures.0 refl _ c.in-Ok.ensures.1

pub returns : goal.returns
returns c = charge_found _ c.charging_sheet.ensures c.in-Ok.ensures.0 _ refl _ c.in-Ok.ensures.1 c.answer.ensures
