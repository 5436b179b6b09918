-- move_turn_prices: the goals that the laws of the crate answer.
use borrow.Author.Rules.{rules}
use Rattle.shift_moves.proofs.MoveCases.{turns_moved_cases}
use Rattle.shift_moves.proofs.move_turn_prices.Goals as goal

pub move_price-requires : goal.move_price-requires
move_price-requires c = search (rules, turns_moved_cases)

pub loop-u-preserved : goal.loop-u-preserved
loop-u-preserved c = search (rules, turns_moved_cases)

pub returns : goal.returns
returns c = search (rules, turns_moved_cases)
