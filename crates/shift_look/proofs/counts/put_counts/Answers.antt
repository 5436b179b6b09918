-- put_counts: what all turns count for; returns the limit's part that is prices.
use Rattle.shift_look.proofs.DriverlessCases.{none_named, driverless_prices}
use borrow.Author.Rules.{rules}
use Rattle.shift_look.proofs.counts.put_counts.Goals as goal

pub put_slope_counts-requires : goal.put_slope_counts-requires
put_slope_counts-requires c = (search rules, search none_named)

pub returns-clause-value : goal.returns-clause-value
returns-clause-value c = (search driverless_prices, search rules)
