-- limit: the limit of any bytes as a sheet and any numbers as a price list.
use mathlib.Core.Path.{refl}
use Rattle.refusal.proofs.Numbers.{no_zero}
use Rattle.instance.proofs.Posed.{loaded_held, loaded_groomers, loaded_drivers}
use Rattle.limit.proofs.AnswerCases.{limit_fault, limit_other, limit_priced_by, limit_found}
use Rattle.limit.proofs.limit.Goals as goal

pub returns-in-Err : goal.returns-in-Err
returns-in-Err c = limit_fault _ _ _ c.in-Err.ensures (no_zero c.in-Err.fault) c.refused.ensures

pub returns-then-prices-slopes : goal.returns-then-prices-slopes
returns-then-prices-slopes c =
    limit_other _ _ _ c.in-Ok.ensures refl (rw (c.from-slopes.ensures, c.from-turns.ensures) at c.if-prices-slopes.true) c.refused-then-prices-slopes.ensures

pub limit_with-limit-requires : goal.limit_with-limit-requires
limit_with-limit-requires c =
    let e = c.in-Ok.ensures in
    let q = c.shift_size.ensures in
    (loaded_held _ _ e refl q, record { groomers = loaded_groomers _ _ e refl q }, record { drivers = loaded_drivers _ _ e refl q }, limit_priced_by _ _ _ e refl _ q (rw (c.from-slopes.ensures, c.from-turns.ensures) at c.if-prices-slopes.false) c.from-slopes.ensures)

pub returns : goal.returns
returns c = limit_found _ _ _ c.in-Ok.ensures refl _ c.shift_size.ensures (rw (c.from-slopes.ensures, c.from-turns.ensures) at c.if-prices-slopes.false) (rw c.from-slopes.ensures at c.limit_with-limit.ensures)
