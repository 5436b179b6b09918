-- is_of_kind: whether a window with this draw is of the kind that is meant.
use Rattle.hall_steps.proofs.OneKindLaws.{row_cases}
use Rattle.hall_steps.proofs.one_kind.is_of_kind.Goals as goal

pub returns-then-a : goal.returns-then-a
returns-then-a c = search row_cases

pub returns-else-a : goal.returns-else-a
returns-else-a c = search row_cases
