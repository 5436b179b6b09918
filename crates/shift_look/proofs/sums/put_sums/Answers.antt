-- put_sums: the goals that the laws of the crate answer.
use borrow.Author.Rules.{rules}
use Rattle.shift_look.proofs.SumCases.{sums_cases, price_inside}
use Rattle.shift_look.proofs.sums.put_sums.Goals as goal

pub loop-j-init : goal.loop-j-init
loop-j-init c = (search rules, search sums_cases)

pub price_at-requires : goal.price_at-requires
price_at-requires c = search (rules, sums_cases, price_inside)

pub loop-j-preserved : goal.loop-j-preserved
loop-j-preserved c = (search rules, search sums_cases)
