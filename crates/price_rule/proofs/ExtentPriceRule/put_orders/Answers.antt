use Rattle.price_rule.proofs.RuleCases.{table_cases}
use Rattle.std.proofs.Common.{rules}
use Rattle.price_rule.proofs.ExtentPriceRule.put_orders.Goals as goal

pub put_orders-requires : goal.put_orders-requires
put_orders-requires c = search (rules, table_cases)

pub fill_rows-requires : goal.fill_rows-requires
fill_rows-requires c = search (rules, table_cases)

pub returns : goal.returns
returns c = search (rules, table_cases)
