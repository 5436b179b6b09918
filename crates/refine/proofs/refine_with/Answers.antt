-- refine_with: plans a board and makes it better by rounds, where the lent places suffice.
use native.Mathlib.Omega.{arith}
use Rattle.selection.proofs.Unchosen.{zeros_cases}
use Rattle.refine.proofs.AnswerCases.{rounds_start, map_kept, write_room, refine_written, written_cases}
use borrow.Author.Rules.{rules}
use Rattle.refine.proofs.refine_with.Goals as goal

pub slice_bounds-map-end : goal.slice_bounds-map-end
slice_bounds-map-end c = search (rules, zeros_cases, written_cases)

pub plan_board-plan-requires-clause-held : goal.plan_board-plan-requires-clause-held
plan_board-plan-requires-clause-held c = (search written_cases, search rules)

pub plan_board-plan-requires-clause-map_len : goal.plan_board-plan-requires-clause-map_len
plan_board-plan-requires-clause-map_len c = search (rules, written_cases)

pub slice_bounds-make_rounds-end-2 : goal.slice_bounds-make_rounds-end-2
slice_bounds-make_rounds-end-2 c = search written_cases

pub make_rounds-r-requires : goal.make_rounds-r-requires
make_rounds-r-requires c =
    rounds_start _ _ _ _ _ _ c.requires.shift_posed.0 c.plan_board-plan.ensures.planned_in c.requires.shift_posed.1 (omega arith)

pub write_choice-requires : goal.write_choice-requires
write_choice-requires c =
    write_room _ _ _ c.plan_board-plan.ensures.planned_in c.requires.count_in_bounds (map_kept _ c.make_rounds-r.ensures)

pub returns : goal.returns
returns c =
    refine_written _ _ _ c.plan_board-plan.ensures.planned_in _ _ c.requires.count_in_bounds c.requires.shift_posed.1 c.make_rounds-r.ensures c.write_choice.ensures c.make_rounds-r.auto.kept
