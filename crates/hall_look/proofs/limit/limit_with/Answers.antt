-- limit_with: the limit, and the vehicles' best windows, where none is there before.
use Rattle.hall_look.proofs.LookCases.{look_cases}
use borrow.Author.Rules.{rules}
use Rattle.hall_look.proofs.limit.limit_with.Goals as goal

pub returns : goal.returns
returns c = search (rules, look_cases)
