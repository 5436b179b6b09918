-- list: plans any bytes as a sheet, and writes the drivers' listing into any lent bytes.
use mathlib.Core.Path.{refl}
use Rattle.refusal.proofs.Numbers.{no_zero}
use Rattle.instance.proofs.Posed.{loaded_held}
use Rattle.list.proofs.AnswerCases.{list_fault, list_short, list_done}
use Rattle.list.proofs.list.Goals as goal

pub returns-in-Err : goal.returns-in-Err
returns-in-Err c = list_fault _ _ _ c.in-Err.ensures (no_zero c.in-Err.fault) c.refused.ensures

pub list_problem-requires : goal.list_problem-requires
list_problem-requires c =
    (loaded_held _ _ c.in-Ok.ensures refl c.shift_size.ensures, list_short _ _ c.args.out.now c.in-Ok.ensures refl c.shift_size.ensures)

pub returns : goal.returns
returns c = list_done _ _ _ c.in-Ok.ensures refl c.shift_size.ensures c.list_problem.ensures
