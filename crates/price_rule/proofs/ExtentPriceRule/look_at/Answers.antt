use Rattle.price_rule.proofs.RuleCases.{look_cases}
use Rattle.std.proofs.Common.{rules}
use Rattle.price_rule.proofs.ExtentPriceRule.look_at.Goals as goal

pub look_at-requires-clause-priced : goal.look_at-requires-clause-priced
look_at-requires-clause-priced c = search (rules, look_cases)

pub look_at-requires-clause-clean : goal.look_at-requires-clause-clean
look_at-requires-clause-clean c = search (rules, look_cases)

pub returns-clause-value : goal.returns-clause-value
returns-clause-value c = search (rules, look_cases)

pub returns-clause-clean_2 : goal.returns-clause-clean_2
returns-clause-clean_2 c = search (rules, look_cases)
