-- first_named: the goals that the laws of the crate answer.
use Rattle.shift_look.proofs.SumCases.{named_found}
use Rattle.shift_look.proofs.sums.first_named.Goals as goal

pub returns-then-driver_at-gt0 : goal.returns-then-driver_at-gt0
returns-then-driver_at-gt0 c = search named_found
