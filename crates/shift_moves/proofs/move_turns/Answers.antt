-- move_turns: moves the prices of all turns by how many taken turns pay them.
use Rattle.shift_moves.proofs.MoveCases.{turn_cases}
use borrow.Author.Rules.{rules}
use Rattle.shift_moves.proofs.move_turns.Goals as goal

pub move_turn_prices-requires : goal.move_turn_prices-requires
move_turn_prices-requires c = search (rules, turn_cases)

pub returns : goal.returns
returns c = search (rules, turn_cases)
