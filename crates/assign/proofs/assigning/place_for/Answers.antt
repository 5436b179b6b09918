-- place_for: the first groomer that is free at a start, as first_free gives it; but where the earliest minute says that all are busy, none is looked at.
use Rattle.assign.proofs.Serving.{free_cases}
use borrow.Author.Rules.{rules}
use Rattle.assign.proofs.assigning.place_for.Goals as goal

pub returns-then-start-g : goal.returns-then-start-g
returns-then-start-g c = search (rules, free_cases)
