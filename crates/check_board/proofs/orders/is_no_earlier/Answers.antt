-- is_no_earlier: whether turn t is not an open turn of j's groomer or driver with an earlier end.
use Rattle.check_board.proofs.Order.{earlier_is}
use borrow.Author.Rules.{rules}
use Rattle.check_board.proofs.orders.is_no_earlier.Goals as goal

pub returns : goal.returns
returns c = search (rules, earlier_is)
