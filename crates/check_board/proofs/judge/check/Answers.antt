-- check: checks any bytes as a board against any bytes as a sheet.
use mathlib.Core.Path.{refl}
use Rattle.check_board.proofs.Checks.{passed_header, check_sheet, check_board, check_passed}
use Rattle.refusal.proofs.Numbers.{no_zero}
use Rattle.check_board.proofs.judge.check.Goals as goal

pub returns-in-Err : goal.returns-in-Err
returns-in-Err c = check_sheet _ _ _ c.in-Err.ensures (no_zero c.in-Err.fault) c.refused.ensures

pub returns-in-Err-board_fault : goal.returns-in-Err-board_fault
returns-in-Err-board_fault c =
    check_board _ _ _ c.in-Ok.ensures refl c.shift_size.ensures c.in-Err-board_fault.ensures.refused (no_zero c.in-Err-board_fault.fault) c.refused-in-Err-board_fault.ensures

pub tally-requires : goal.tally-requires
tally-requires c = passed_header _ _ c.in-Ok-board_fault.ensures.refused

pub worth-requires : goal.worth-requires
worth-requires c = passed_header _ _ c.in-Ok-board_fault.ensures.refused

pub returns-in-Ok-board_fault : goal.returns-in-Ok-board_fault
returns-in-Ok-board_fault c =
    check_passed _ _ _ c.in-Ok.ensures refl c.shift_size.ensures c.in-Ok-board_fault.ensures.refused refl c.tally.ensures c.worth.ensures c.in-Ok-board_fault.ensures.counted
