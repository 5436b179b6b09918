use Rattle.price_rule.proofs.RuleCases.{move_cases, hall_prices}
use Rattle.std.proofs.Common.{rules, refl}
use Rattle.price_rule.proofs.HallSizePriceRule.move_prices.Goals as goal

pub move_minutes-requires : goal.move_minutes-requires
move_minutes-requires c = (search (rules, move_cases), search (rules, move_cases), search (rules, move_cases), hall_prices _ _ refl _ c.requires.rule_posed.2)

pub returns : goal.returns
returns c = search (rules, move_cases)
