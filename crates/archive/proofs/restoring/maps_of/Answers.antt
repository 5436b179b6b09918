-- maps_of: the maps of a kept form, as that part of the caller's bytes.
use Rattle.archive.proofs.RestoreCases.{maps_part_cases}
use borrow.Author.Rules.{rules}
use Rattle.archive.proofs.restoring.maps_of.Goals as goal

pub returns : goal.returns
returns c = (search (rules, maps_part_cases), search (rules, maps_part_cases))
