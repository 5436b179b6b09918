use Rattle.price_rule.proofs.RuleCases.{table_cases}
use Rattle.std.proofs.Common.{rules}
use Rattle.price_rule.proofs.HallSizePriceRule.put_orders.Goals as goal

pub returns : goal.returns
returns c = search (rules, table_cases)
