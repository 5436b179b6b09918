use Rattle.price_rule.proofs.RuleCases.{chosen_cases, hall_posed}
use Rattle.std.proofs.Common.{rules, refl}
use Rattle.price_rule.proofs.HallSizePriceRule.choose_listed.Goals as goal

pub choose_listed-requires-clause-hall_held : goal.choose_listed-requires-clause-hall_held
choose_listed-requires-clause-hall_held c = ((hall_posed _ _ refl _ c.requires.rule_posed.0).held, search (rules, chosen_cases), search (rules, chosen_cases))

pub choose_listed-requires-clause-map_value : goal.choose_listed-requires-clause-map_value
choose_listed-requires-clause-map_value c = search (rules, chosen_cases)

pub worth_chosen-requires : goal.worth_chosen-requires
worth_chosen-requires c = search (rules, chosen_cases)

pub returns-clause-map_after : goal.returns-clause-map_after
returns-clause-map_after c = search (rules, chosen_cases)

pub returns-clause-clean_2 : goal.returns-clause-clean_2
returns-clause-clean_2 c = search (rules, chosen_cases)
