-- any_driver: whether a turn names a driver.
use Rattle.shift_look.proofs.DriverlessCases.{any_cases}
use borrow.Author.Rules.{rules}
use Rattle.shift_look.proofs.driverless.any_driver.Goals as goal

pub returns-then-p-eq0 : goal.returns-then-p-eq0
returns-then-p-eq0 c = search (rules, any_cases)

pub returns-then-row_at-gt0 : goal.returns-then-row_at-gt0
returns-then-row_at-gt0 c = search (rules, any_cases)
