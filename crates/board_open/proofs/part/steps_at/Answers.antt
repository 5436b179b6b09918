-- steps_at: the part of the board that `steps` returns.
use Rattle.board_open.proofs.Parts.{part_named, steps_none, part_at, part_cases}
use borrow.Author.Rules.{rules}
use Rattle.board_open.proofs.part.steps_at.Goals as goal

pub returns-then-open-ne0-clause-value : goal.returns-then-open-ne0-clause-value
returns-then-open-ne0-clause-value c = let p = steps_none _ c.open.ensures c.if-open-ne0.true in p

pub returns-then-open-ne0-clause-board_value : goal.returns-then-open-ne0-clause-board_value
returns-then-open-ne0-clause-board_value c = let p = steps_none _ c.open.ensures c.if-open-ne0.true in part_named _ p

pub overflow_sub-result : goal.overflow_sub-result
overflow_sub-result c = search (rules, part_cases)

pub returns-clause-value : goal.returns-clause-value
returns-clause-value c = let p = part_at _ c.open.ensures c.if-open-ne0.false c.steps-part.ensures.result_value in p

pub returns-clause-board_value : goal.returns-clause-board_value
returns-clause-board_value c = let p = part_at _ c.open.ensures c.if-open-ne0.false c.steps-part.ensures.result_value in part_named _ p
