-- greatest_worth: the goals that the laws of the crate answer.
use borrow.Author.Rules.{rules}
use Rattle.round_parts.proofs.ChangeCases.{greatest_cases}
use Rattle.round_parts.proofs.change.greatest_worth.Goals as goal

pub loop-t-init : goal.loop-t-init
loop-t-init c = search (rules, greatest_cases)

pub loop-t-preserved : goal.loop-t-preserved
loop-t-preserved c = search (rules, greatest_cases)

pub returns : goal.returns
returns c = search (rules, greatest_cases)
