-- best: reads any bytes as a sheet, finds the best worth, and writes the map of the set that earns it into any lent bytes.
use mathlib.Core.Path.{refl}
use Rattle.refusal.proofs.Numbers.{no_zero}
use Rattle.instance.proofs.Posed.{loaded_held, loaded_groomers}
use Rattle.best.proofs.AnswerCases.{best_fault, best_two, best_found}
use Rattle.best.proofs.best.Goals as goal

pub returns-in-Err : goal.returns-in-Err
returns-in-Err c = best_fault _ _ _ c.in-Err.ensures (no_zero c.in-Err.fault) c.refused.ensures

pub answer-requires : goal.answer-requires
answer-requires c = (loaded_held _ _ c.in-Ok.ensures refl c.shift_size-p.ensures, record { groomers = loaded_groomers _ _ c.in-Ok.ensures refl c.shift_size-p.ensures })

pub returns-then-not-is_single : goal.returns-then-not-is_single
returns-then-not-is_single c = best_two _ _ _ c.in-Ok.ensures refl c.shift_size-p.ensures c.is_single.ensures c.if-not-is_single.true c.refused-then-not-is_single.ensures

pub returns : goal.returns
returns c = best_found _ _ _ c.in-Ok.ensures refl c.shift_size-p.ensures c.is_single.ensures c.if-not-is_single.false c.answer.ensures
