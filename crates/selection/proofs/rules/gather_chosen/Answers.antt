-- gather_chosen: the goals that the laws of the crate answer.
use borrow.Author.Rules.{rules}
use Rattle.selection.proofs.Chosen.{take_next, take_skip, lent_cases, all_cases}
use Rattle.selection.proofs.rules.gather_chosen.Goals as goal
use Rattle.selection.proofs.rules.gather_chosen.Goals.{then-is_chosen, else-is_chosen}

pub loop-x-init : goal.loop-x-init
loop-x-init c = search (rules, all_cases)

pub gather_row-requires : goal.gather_row-requires
gather_row-requires c = search lent_cases

pub overflow_add-c : goal.overflow_add-c
overflow_add-c c = search lent_cases

pub loop-x-preserved : goal.loop-x-preserved
loop-x-preserved c =
    elim c.if-is_chosen.branch [
      | then-is_chosen w ↦
          rw (w.rows-is, w.flags-is, w.c-is)
          (take_next c.args.p c.args.cols.now c.args.map.now c.loop-x.x c.loop-x-test.true c.is_chosen.ensures w.row_at.ensures _ _ _ c.requires.0 w.if-is_chosen.true c.loop-x.invariant w.gather_row.ensures.rows_after w.gather_row.ensures.flags_after)
      | else-is_chosen w ↦ rw (w.rows-is, w.flags-is, w.c-is) (take_skip c.args.p c.args.cols.now c.args.map.now c.loop-x.x c.loop-x-test.true c.is_chosen.ensures _ _ _ w.if-is_chosen.false c.loop-x.invariant)
    ]
