-- is_chosen: whether turn t is chosen.
use Rattle.choice_map.proofs.Maps.{map_cases}
use borrow.Author.Rules.{rules}
use Rattle.choice_map.proofs.is_chosen.Goals as goal

pub returns : goal.returns
returns c = search (rules, map_cases)
