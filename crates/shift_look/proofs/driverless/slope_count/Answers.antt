-- slope_count: what turn t counts for.
use Rattle.shift_look.proofs.DriverlessCases.{slope_count_cases}
use borrow.Author.Rules.{rules}
use Rattle.shift_look.proofs.driverless.slope_count.Goals as goal

pub overflow_sub-row : goal.overflow_sub-row
overflow_sub-row c = search (rules, slope_count_cases)

pub price_at-paid-requires : goal.price_at-paid-requires
price_at-paid-requires c = search (rules, slope_count_cases)

pub returns : goal.returns
returns c = search (rules, slope_count_cases)
