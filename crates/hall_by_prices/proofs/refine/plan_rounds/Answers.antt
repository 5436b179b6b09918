-- plan_rounds: plans the hall into a map, and makes the rounds from that choice.
use Rattle.hall_by_prices.proofs.RefineCases.{plan_cases}
use borrow.Author.Rules.{rules}
use Rattle.hall_by_prices.proofs.refine.plan_rounds.Goals as goal

pub make_rounds-requires : goal.make_rounds-requires
make_rounds-requires c = search (rules, plan_cases)

pub returns : goal.returns
returns c = search (rules, plan_cases)
