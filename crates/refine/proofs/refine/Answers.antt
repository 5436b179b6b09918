-- refine: makes at most so many rounds for any bytes as a sheet, and writes the best board and the prices of the lowest limit into any lent places.
use mathlib.Core.Path.{refl}
use Rattle.refusal.proofs.Numbers.{no_zero}
use Rattle.plan.proofs.Answers.{plan_room}
use Rattle.refine.proofs.AnswerCases.{refine_fault, refine_short, refine_few, refine_posed, refine_list, refine_done}
use Rattle.refine.proofs.refine.Goals as goal

pub returns-in-Err : goal.returns-in-Err
returns-in-Err c = refine_fault _ _ _ _ _ c.in-Err.ensures (no_zero c.in-Err.fault) c.refused.ensures

pub returns-then-board-board_bytes : goal.returns-then-board-board_bytes
returns-then-board-board_bytes c =
    refine_short _ _ _ _ _ c.in-Ok.ensures refl c.board_bytes.ensures c.refused-then-board-board_bytes.ensures c.if-board-board_bytes.true

pub returns-then-prices-slopes : goal.returns-then-prices-slopes
returns-then-prices-slopes c =
    refine_few _ _ _ _ _ c.in-Ok.ensures refl c.refused-then-prices-slopes.ensures c.if-prices-slopes.true

pub refine_with-requires-clause-shift_posed : goal.refine_with-requires-clause-shift_posed
refine_with-requires-clause-shift_posed c =
    (refine_posed _ _ c.args.rounds c.args.board.now c.args.prices.now c.in-Ok.ensures refl c.shift_size.ensures, refine_list _ _ _ c.shift_size.ensures c.if-prices-slopes.false)

pub refine_with-requires-clause-count_in_bounds : goal.refine_with-requires-clause-count_in_bounds
refine_with-requires-clause-count_in_bounds c = plan_room _ c.args.board.now c.shift_size.ensures c.board_bytes.ensures c.if-board-board_bytes.false

pub returns : goal.returns
returns c =
    refine_done _ _ _ _ _ c.in-Ok.ensures refl c.board_bytes.ensures c.shift_size.ensures c.if-prices-slopes.false c.if-board-board_bytes.false c.refine_with.ensures
