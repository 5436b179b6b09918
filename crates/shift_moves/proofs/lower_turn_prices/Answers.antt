-- lower_turn_prices: the goals that the laws of the crate answer.
use borrow.Author.Rules.{rules}
use Rattle.shift_moves.proofs.MoveCases.{lowered_cases}
use Rattle.shift_moves.proofs.lower_turn_prices.Goals as goal

pub loop-u-preserved : goal.loop-u-preserved
loop-u-preserved c = search (rules, lowered_cases)

pub returns : goal.returns
returns c = search (rules, lowered_cases)
