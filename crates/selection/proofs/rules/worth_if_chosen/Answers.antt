-- worth_if_chosen: a turn's worth if it is chosen, else 0.
use Rattle.selection.proofs.Chosen.{one_cases}
use borrow.Author.Rules.{rules}
use Rattle.selection.proofs.rules.worth_if_chosen.Goals as goal

pub returns-then-is_chosen : goal.returns-then-is_chosen
returns-then-is_chosen c = (search one_cases, search rules)

pub returns-else-is_chosen : goal.returns-else-is_chosen
returns-else-is_chosen c = (search one_cases, search rules)
