-- refine_hall: the rounds into lent places that suffice.
use Rattle.hall_by_prices.proofs.RefineCases.{written_cases}
use borrow.Author.Rules.{rules}
use Rattle.hall_by_prices.proofs.refine.refine_hall.Goals as goal

pub plan_rounds-r-requires : goal.plan_rounds-r-requires
plan_rounds-r-requires c = record { hall_posed = (search rules, search (rules, written_cases), search (rules, written_cases)) }

pub returns : goal.returns
returns c = search (rules, written_cases)
