-- place_of: the place of a turn, or the number of turns if the turn has none.
use borrow.Author.Rules.{rules}
use Rattle.instance.proofs.Orders.{place_cases}
use Rattle.instance.proofs.by_end.place_of.Goals as goal

pub returns-then-i-places : goal.returns-then-i-places
returns-then-i-places c = search (rules, place_cases)

pub returns-else-i-places : goal.returns-else-i-places
returns-else-i-places c = search (rules, place_cases)
