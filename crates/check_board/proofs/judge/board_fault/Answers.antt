-- board_fault: the first cause to refuse a board for a problem; if none, the ceiling of its steps.
use Rattle.board_open.proofs.Openings.{opened_cases}
use Rattle.check_board.proofs.Judgements.{board_cases}
use borrow.Author.Rules.{rules}
use Rattle.check_board.proofs.judge.board_fault.Goals as goal

pub returns-then-open-ne0-clause-refused : goal.returns-then-open-ne0-clause-refused
returns-then-open-ne0-clause-refused c = search (rules, opened_cases, board_cases)

pub turns-requires : goal.turns-requires
turns-requires c = search (rules, opened_cases, board_cases)

pub returns-then-turns-p-clause-refused : goal.returns-then-turns-p-clause-refused
returns-then-turns-p-clause-refused c = search (rules, opened_cases, board_cases)

pub map-map-requires : goal.map-map-requires
map-map-requires c = search (rules, opened_cases, board_cases)

pub parts_fault-requires : goal.parts_fault-requires
parts_fault-requires c = search (rules, opened_cases, board_cases)

pub returns-clause-refused : goal.returns-clause-refused
returns-clause-refused c = search (rules, opened_cases, board_cases)

pub returns-clause-counted : goal.returns-clause-counted
returns-clause-counted c = search (rules, opened_cases, board_cases)
