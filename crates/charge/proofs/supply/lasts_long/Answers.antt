-- lasts_long: the goals that the laws of the crate answer.
use Prim.Native.Nat.{◌+◌}
use mathlib.Core.Path.{refl, ap}
use mathlib.Core.Bool.{not}
use native.Mathlib.Omega.{arith}
use Rattle.charge.specs.Supply.{part_minutes}
use borrow.Author.Rules.{rules}
use Rattle.charge.proofs.Supplies.{long_not, long_more, long_done, long_cases}
use Rattle.charge.proofs.supply.lasts_long.Goals as goal
use Rattle.charge.proofs.supply.lasts_long.Goals.{else-loop-m-test, then-loop-m-test+else-not-lasts_from+else-last-m-gt32}

pub loop-m-init : goal.loop-m-init
loop-m-init c = (search rules, search rules, search rules, search rules, search rules, search long_cases)

pub returns-then-not-lasts_from : goal.returns-then-not-lasts_from
returns-then-not-lasts_from c = search long_not

pub loop-m-preserved : goal.loop-m-preserved
loop-m-preserved c = (search rules, search rules, search rules, search rules, search rules, search long_more)

pub returns : goal.returns
returns c =
    elim c.loop-m-test.branch [
      | else-loop-m-test w ↦ long_done c.args.used.now c.args.start c.args.room c.args.end c.loop-m.m c.loop-m.invariant.0 c.loop-m.invariant.5 _ refl c.loop-m.invariant.3 w.loop-m-test.false c.lasts_from-2.ensures
      | then-loop-m-test+else-not-lasts_from+else-last-m-gt32 w ↦ long_done c.args.used.now c.args.start c.args.room c.args.end (c.loop-m.m + part_minutes) (omega (arith, c.loop-m.invariant.0)) (long_more c.args.used.now c.args.start c.args.room c.args.end c.loop-m.m c.loop-m.invariant.0 c.loop-m.invariant.5 w.lasts_from.ensures (ap not w.if-not-lasts_from.false)) _ refl c.loop-m.invariant.3 (omega arith) c.lasts_from-2.ensures
    ]
