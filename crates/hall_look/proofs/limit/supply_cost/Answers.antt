-- supply_cost: what all units cost at all minutes.
use Rattle.hall_look.proofs.LookCases.{supply_cases}
use borrow.Author.Rules.{rules}
use Rattle.hall_look.proofs.limit.supply_cost.Goals as goal

pub returns : goal.returns
returns c = search (rules, supply_cases)
