-- next_change: the change of the next round.
use Rattle.round_parts.proofs.ChangeCases.{change_cases}
use borrow.Author.Rules.{rules}
use Rattle.round_parts.proofs.change.next_change.Goals as goal

pub returns : goal.returns
returns c = search (rules, change_cases)
