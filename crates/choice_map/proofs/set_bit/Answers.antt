-- set_bit: sets bit t: in a choice map, turn t is chosen too.
use Rattle.choice_map.proofs.Maps.{map_cases}
use borrow.Author.Rules.{rules}
use Rattle.choice_map.proofs.set_bit.Goals as goal

pub returns : goal.returns
returns c = search (rules, map_cases)
