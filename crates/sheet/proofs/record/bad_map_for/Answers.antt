-- bad_map_for: whether a record may not have this map.
use borrow.Author.Rules.{rules}
use Rattle.sheet.proofs.Records.{map_cases}
use Rattle.sheet.proofs.record.bad_map_for.Goals as goal

pub returns-then-maps-m : goal.returns-then-maps-m
returns-then-maps-m c = search (rules, map_cases)

pub returns-then-m-maps : goal.returns-then-m-maps
returns-then-m-maps c = search (rules, map_cases)

pub returns-else-m-maps : goal.returns-else-m-maps
returns-else-m-maps c = search (rules, map_cases)

pub returns-else-first : goal.returns-else-first
returns-else-first c = search (rules, map_cases)
