-- `prepare` meets its contract: what is known before the first minute, for any bytes.
use mathlib.Core.Path.{refl}
use Rattle.refusal.proofs.Numbers.{no_zero}
use Rattle.play.proofs.Answers.{sheet_few, sheet_gap, sheet_known, sheet_refused, sheet_prepared}
use Rattle.instance.proofs.Posed.{loaded_held}
use Rattle.play.proofs.preparing.prepare.Goals as goal

pub returns-in-Err : goal.returns-in-Err
returns-in-Err c = sheet_refused _ _ _ _ _ c.in-Err.ensures _ _ (no_zero c.in-Err.fault) c.requires c.refused.ensures

pub prepare_board-requires-clause-held : goal.prepare_board-requires-clause-held
prepare_board-requires-clause-held c =
    let e = c.in-Ok.ensures in
    let q = c.shift_size-p.ensures in
    (loaded_held _ _ e refl q, sheet_gap _ _ e refl q, sheet_known _ _ e refl q, sheet_few _ _ e refl)

pub returns : goal.returns
returns c =
    sheet_prepared _ _ c.in-Ok.ensures refl c.shift_size-p.ensures _ _ _ _ _ c.prepare_board.ensures
