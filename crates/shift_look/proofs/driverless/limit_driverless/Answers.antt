-- limit_driverless: the limit at these prices, with places for the groomers' order.
use Rattle.shift_look.proofs.DriverlessCases.{driverless_cases}
use Rattle.shift_look.proofs.driverless.limit_driverless.Goals as goal

pub fill_table-requires : goal.fill_table-requires
fill_table-requires c = search driverless_cases

pub returns : goal.returns
returns c = search driverless_cases
