-- is_earliest: the goals that the laws of the crate answer.
use borrow.Author.Rules.{rules}
use Rattle.check_board.proofs.Order.{earliest_cases}
use Rattle.check_board.proofs.orders.is_earliest.Goals as goal

pub loop-t-init : goal.loop-t-init
loop-t-init c = (search earliest_cases, search earliest_cases)

pub loop-t-preserved : goal.loop-t-preserved
loop-t-preserved c = search (rules, earliest_cases)

pub returns : goal.returns
returns c = search earliest_cases
