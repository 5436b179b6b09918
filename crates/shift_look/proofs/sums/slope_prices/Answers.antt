-- slope_prices: the goals that the laws of the crate answer.
use borrow.Author.Rules.{rules}
use Rattle.shift_look.proofs.SumCases.{slopes_cases}
use Rattle.shift_look.proofs.sums.slope_prices.Goals as goal

pub loop-k-init : goal.loop-k-init
loop-k-init c = search (rules, slopes_cases)

pub loop-k-preserved : goal.loop-k-preserved
loop-k-preserved c = search (rules, slopes_cases)
