-- number_all: the goals that the laws of the crate answer.
use Rattle.assign.proofs.Places.{serving_cases}
use borrow.Author.Rules.{rules}
use Rattle.assign.proofs.assigning.number_all.Goals as goal

pub loop-t-init : goal.loop-t-init
loop-t-init c = (search (rules, serving_cases), search (rules, serving_cases))

pub number_turn-g-requires : goal.number_turn-g-requires
number_turn-g-requires c = search (rules, serving_cases)

pub loop-t-preserved : goal.loop-t-preserved
loop-t-preserved c = (search (rules, serving_cases), search rules)

pub returns : goal.returns
returns c = (search (rules, serving_cases), search (rules, serving_cases), search (rules, serving_cases))
