-- bests_sum: what the best windows of vehicles 1 to the last count for together.
use Rattle.hall_look.proofs.LookCases.{sum_start, own_more}
use Rattle.hall_look.proofs.limit.bests_sum.Goals as goal

pub loop-count-init : goal.loop-count-init
loop-count-init c = sum_start c.args.most.now c.args.vehicles c.requires

pub loop-count-preserved : goal.loop-count-preserved
loop-count-preserved c = own_more c.args.most.now c.requires c.told-most c.from.ensures c.loop-count.invariant c.loop-count-test.true c.from-sum.ensures c.fits-most
