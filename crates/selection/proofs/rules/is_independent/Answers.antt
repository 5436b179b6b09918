-- is_independent: the goals that the laws of the crate answer.
use borrow.Author.Rules.{rules}
use Rattle.selection.proofs.Chosen.{take_fit, take_skip, independent_next, independent_skip, independent_ends, lent_cases, all_cases}
use Rattle.selection.proofs.rules.is_independent.Goals as goal
use Rattle.selection.proofs.rules.is_independent.Goals.{then-is_chosen+else-not-gather_if_fits, else-is_chosen}

pub loop-x-init : goal.loop-x-init
loop-x-init c = (search (rules, all_cases), search all_cases)

pub gather_if_fits-requires : goal.gather_if_fits-requires
gather_if_fits-requires c = (search lent_cases, search lent_cases, λ f. search lent_cases)

pub returns-then-not-gather_if_fits : goal.returns-then-not-gather_if_fits
returns-then-not-gather_if_fits c = independent_ends _ _ _ _ c.loop-x-test.true c.is_chosen.ensures c.row_at.ensures _ _ _ c.requires c.gather_if_fits.ensures.value c.if-is_chosen.true c.loop-x.invariant.0
    c.if-not-gather_if_fits.true

pub overflow_add-c : goal.overflow_add-c
overflow_add-c c = search lent_cases

pub loop-x-preserved : goal.loop-x-preserved
loop-x-preserved c =
    elim c.if-is_chosen.branch [
      | then-is_chosen+else-not-gather_if_fits w ↦
          rw (w.rows-is, w.flags-is, w.c-is) (
            take_fit c.args.p c.args.cols.now c.args.map.now c.loop-x.x c.loop-x-test.true c.is_chosen.ensures w.row_at.ensures _ _ _ c.requires {r = w.gather_if_fits.result} w.if-not-gather_if_fits.false w.if-is_chosen.true c.loop-x.invariant.0 w.gather_if_fits.ensures.rows_after w.gather_if_fits.ensures.flags_after,
            independent_next c.args.p c.args.cols.now c.args.map.now c.loop-x.x c.loop-x-test.true c.is_chosen.ensures w.row_at.ensures _ _ _ c.requires w.gather_if_fits.ensures.value w.if-is_chosen.true c.loop-x.invariant.0 w.if-not-gather_if_fits.false c.loop-x.invariant.1,
          )
      | else-is_chosen w ↦
          rw (w.rows-is, w.flags-is, w.c-is)
          (take_skip c.args.p c.args.cols.now c.args.map.now c.loop-x.x c.loop-x-test.true c.is_chosen.ensures _ _ _ w.if-is_chosen.false c.loop-x.invariant.0, independent_skip c.args.p c.args.cols.now c.args.map.now c.loop-x.x c.loop-x-test.true c.is_chosen.ensures w.if-is_chosen.false c.loop-x.invariant.1)
    ]

pub returns : goal.returns
returns c = search (rules, all_cases)
