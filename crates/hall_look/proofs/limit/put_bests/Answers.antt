-- put_bests: the goals that the laws of the crate answer.
use borrow.Author.Rules.{rules}
use Rattle.hall_look.proofs.LookCases.{bests_cases}
use Rattle.hall_look.proofs.limit.put_bests.Goals as goal

pub loop-t-init : goal.loop-t-init
loop-t-init c = search (rules, bests_cases)

pub counts_for-count-requires : goal.counts_for-count-requires
counts_for-count-requires c = search (rules, bests_cases)

pub keep_best-requires : goal.keep_best-requires
keep_best-requires c = search (rules, bests_cases)

pub loop-t-preserved : goal.loop-t-preserved
loop-t-preserved c = search (rules, bests_cases)
