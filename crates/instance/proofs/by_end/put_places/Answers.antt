-- put_places: the goals that the laws of the crate answer.
use borrow.Author.Rules.{rules}
use Rattle.instance.proofs.Orders.{places_cases}
use Rattle.instance.proofs.by_end.put_places.Goals as goal

pub loop-i-init : goal.loop-i-init
loop-i-init c = search (rules, places_cases)

pub loop-i-preserved : goal.loop-i-preserved
loop-i-preserved c = search (rules, places_cases)
