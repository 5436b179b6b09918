use Rattle.price_rule.proofs.RuleCases.{chosen_cases}
use Rattle.std.proofs.Common.{rules}
use Rattle.price_rule.proofs.ExtentPriceRule.choose_listed.Goals as goal

pub choose_listed-requires-clause-held : goal.choose_listed-requires-clause-held
choose_listed-requires-clause-held c = search (rules, chosen_cases)

pub choose_listed-requires-clause-map_value : goal.choose_listed-requires-clause-map_value
choose_listed-requires-clause-map_value c = search (rules, chosen_cases)

pub returns-clause-map_after : goal.returns-clause-map_after
returns-clause-map_after c = search (rules, chosen_cases)

pub returns-clause-clean_2 : goal.returns-clause-clean_2
returns-clause-clean_2 c = search (rules, chosen_cases)
