-- move_slope_prices: the goals that the laws of the crate answer.
use borrow.Author.Rules.{rules}
use Rattle.shift_moves.proofs.MoveCases.{slopes_few}
use Rattle.shift_moves.proofs.move_slope_prices.Goals as goal

pub move_price-requires : goal.move_price-requires
move_price-requires c = search (rules, slopes_few)
