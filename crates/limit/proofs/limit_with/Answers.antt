-- limit_with: the limit of a problem, with places for the orders.
use Rattle.shift_look.proofs.DriverlessCases.{none_named}
use borrow.Author.Rules.{rules}
use Rattle.limit.proofs.limit_with.Goals as goal

pub limit_driverless-requires : goal.limit_driverless-requires
limit_driverless-requires c = (search rules, search rules, search rules, search none_named)
