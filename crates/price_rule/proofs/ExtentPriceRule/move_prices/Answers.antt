use Rattle.price_rule.proofs.RuleCases.{move_cases}
use Rattle.std.proofs.Common.{rules}
use Rattle.price_rule.proofs.ExtentPriceRule.move_prices.Goals as goal

pub offset_bounds-list-self : goal.offset_bounds-list-self
offset_bounds-list-self c = search (rules, move_cases)

pub slice_bounds-taken-count : goal.slice_bounds-taken-count
slice_bounds-taken-count c = search (rules, move_cases)

pub slice_bounds-taken-start : goal.slice_bounds-taken-start
slice_bounds-taken-start c = search (rules, move_cases)

pub move_prices-requires-clause-priced : goal.move_prices-requires-clause-priced
move_prices-requires-clause-priced c = search (rules, move_cases)

pub returns : goal.returns
returns c = search (rules, move_cases)
