-- turn_change: the change of a turn's price.
use Rattle.shift_moves.proofs.MoveCases.{change_cases}
use borrow.Author.Rules.{rules}
use Rattle.shift_moves.proofs.turn_change.Goals as goal

pub returns : goal.returns
returns c = search (rules, change_cases)
