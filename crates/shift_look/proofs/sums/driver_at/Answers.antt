-- driver_at: the driver of the turn at place j of the drivers' order.
use Rattle.shift_look.proofs.SumCases.{driver_cases}
use borrow.Author.Rules.{rules}
use Rattle.shift_look.proofs.sums.driver_at.Goals as goal

pub returns : goal.returns
returns c = search (rules, driver_cases)

pub row_at-requires : goal.row_at-requires
row_at-requires c = search (rules, driver_cases)
