-- chosen_worth: the goals that the laws of the crate answer.
use borrow.Author.Rules.{rules}
use Rattle.selection.proofs.Chosen.{all_cases}
use Rattle.selection.proofs.rules.chosen_worth.Goals as goal

pub loop-t-init : goal.loop-t-init
loop-t-init c = (search rules, search (rules, all_cases))

pub loop-t-preserved : goal.loop-t-preserved
loop-t-preserved c = (search rules, search (rules, all_cases))
