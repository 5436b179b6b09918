-- list_problem: the listing of a problem: its board is planned into a place of its own, with room for what planning puts down.
use Rattle.plan.proofs.Space.{space_cases}
use borrow.Author.Rules.{rules}
use Rattle.list.proofs.list_problem.Goals as goal

pub slice_bounds-space-end : goal.slice_bounds-space-end
slice_bounds-space-end c = search (rules, space_cases)

pub slice_bounds-list_board-end : goal.slice_bounds-list_board-end
slice_bounds-list_board-end c = search (rules, space_cases)

pub list_board-requires : goal.list_board-requires
list_board-requires c = search (rules, space_cases)
