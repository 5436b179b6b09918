use Rattle.price_rule.proofs.RuleCases.{size_cases}
use Rattle.std.proofs.Common.{rules}
use Rattle.price_rule.proofs.HallSizePriceRule.size.Goals as goal

pub returns : goal.returns
returns c = search (rules, size_cases)
