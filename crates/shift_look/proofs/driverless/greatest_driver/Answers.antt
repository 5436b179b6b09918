-- greatest_driver: the goals that the laws of the crate answer.
use Rattle.shift_look.proofs.DriverlessCases.{greatest_cases}
use Rattle.shift_look.proofs.driverless.greatest_driver.Goals as goal

pub loop-t-init : goal.loop-t-init
loop-t-init c = search greatest_cases

pub loop-t-preserved : goal.loop-t-preserved
loop-t-preserved c = search greatest_cases
