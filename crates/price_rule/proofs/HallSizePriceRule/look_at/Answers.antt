use Rattle.price_rule.proofs.RuleCases.{look_cases, hall_prices}
use Rattle.std.proofs.Common.{rules, refl}
use Rattle.price_rule.proofs.HallSizePriceRule.look_at.Goals as goal

pub look_at-requires-clause-hall_posed : goal.look_at-requires-clause-hall_posed
look_at-requires-clause-hall_posed c = (search (rules, look_cases), hall_prices _ _ refl _ c.requires.rule_posed.2)

pub look_at-requires-clause-clean : goal.look_at-requires-clause-clean
look_at-requires-clause-clean c = search (rules, look_cases)

pub returns-clause-value : goal.returns-clause-value
returns-clause-value c = search (rules, look_cases)

pub returns-clause-clean_2 : goal.returns-clause-clean_2
returns-clause-clean_2 c = search (rules, look_cases)
