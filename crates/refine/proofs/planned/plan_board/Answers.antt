-- plan_board: plans a board, and copies its map.
use Rattle.refine.proofs.BoardCases.{lent_cases}
use borrow.Author.Rules.{rules}
use Rattle.refine.proofs.planned.plan_board.Goals as goal

pub slice_bounds-copy_choice-end : goal.slice_bounds-copy_choice-end
slice_bounds-copy_choice-end c = search (rules, lent_cases)

pub slice_bounds-copy_choice-end-2 : goal.slice_bounds-copy_choice-end-2
slice_bounds-copy_choice-end-2 c = search (rules, lent_cases)

pub copy_choice-worth-requires : goal.copy_choice-worth-requires
copy_choice-worth-requires c = search (rules, lent_cases)
