use Rattle.price_rule.proofs.RuleCases.{change_cases}
use Rattle.std.proofs.Common.{rules}
use Rattle.price_rule.proofs.HallSizePriceRule.first_change.Goals as goal

pub greatest_worth-requires : goal.greatest_worth-requires
greatest_worth-requires c = search (rules, change_cases)

pub returns : goal.returns
returns c = search (rules, change_cases)
