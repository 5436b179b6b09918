-- `prepare_board` meets its contract: what is known before the first minute, for a problem and any board.
use Rattle.play.proofs.Answers.{board_refused, board_passes, board_cases}
use Rattle.refusal.proofs.Numbers.{no_zero}
use borrow.Author.Rules.{rules}
use Rattle.play.proofs.preparing.prepare_board.Goals as goal

pub returns-in-Err : goal.returns-in-Err
returns-in-Err c = board_refused _ _ _ _ _ _ _ _ c.in-Err.ensures.refused (no_zero c.in-Err.fault) (search rules) c.refused.ensures

pub prepare_days-requires : goal.prepare_days-requires
prepare_days-requires c = search (rules, board_cases)

pub returns-in-Ok : goal.returns-in-Ok
returns-in-Ok c = board_passes _ _ c.in-Ok.ensures.refused _ _ _ _ _ _ c.prepare_days.ensures
