-- move_slopes: moves the prices of all slopes by how many taken turns pay them.
use Rattle.shift_moves.proofs.MoveCases.{slope_cases}
use borrow.Author.Rules.{rules}
use Rattle.shift_moves.proofs.move_slopes.Goals as goal

pub count_numbers-requires : goal.count_numbers-requires
count_numbers-requires c = search (rules, slope_cases)

pub move_slope_prices-requires : goal.move_slope_prices-requires
move_slope_prices-requires c = search (rules, slope_cases)

pub returns : goal.returns
returns c = search (rules, slope_cases)
