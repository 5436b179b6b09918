-- lasts_from: whether at each of n minutes from one on at most so much is used.
use native.Mathlib.Omega.{arith}
use Rattle.charge.proofs.Supplies.{for_start, for_more}
use Rattle.charge.proofs.supply.lasts_from.Goals as goal

pub loop-drawn-init : goal.loop-drawn-init
loop-drawn-init c = for_start c.args.used.now c.args.from c.args.room c.args.n

pub loop-drawn-preserved : goal.loop-drawn-preserved
loop-drawn-preserved c = for_more c.args.used.now c.args.from c.args.room c.args.n (omega arith) c.loop-drawn.drawn-index c.loop-drawn.invariant c.loop-drawn-test.true
