-- is_right: whether a step is right where it stands.
use Rattle.check_board.proofs.Order.{right_cases}
use Rattle.std.proofs.lemmas.Grind.{common_steps}
use native.Mathlib.Omega.{arith}
use Rattle.check_board.proofs.orders.is_right.Goals as goal

pub returns-then-amount-left_of : goal.returns-then-amount-left_of
returns-then-amount-left_of c = grind (arith, common_steps, right_cases)

pub returns-else-amount-left_of : goal.returns-else-amount-left_of
returns-else-amount-left_of c = grind (arith, common_steps, right_cases)
