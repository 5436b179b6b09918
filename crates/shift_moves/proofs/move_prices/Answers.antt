-- move_prices: moves every price by how many turns of the relaxed set pay it.
use Rattle.shift_moves.proofs.MoveCases.{prices_cases}
use Rattle.shift_moves.proofs.DriversOrder.{order_once, order_runs}
use borrow.Author.Rules.{rules}
use Rattle.shift_moves.proofs.move_prices.Goals as goal

pub move_turns-requires : goal.move_turns-requires
move_turns-requires c = search (rules, prices_cases, order_once, order_runs)

pub returns-then-any_driver : goal.returns-then-any_driver
returns-then-any_driver c = search (rules, prices_cases)

pub returns : goal.returns
returns c = search (rules, prices_cases)
