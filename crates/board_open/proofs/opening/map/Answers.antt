-- map: the choice map of a board that opens, as that part of the caller's bytes.
use Rattle.board_open.proofs.Openings.{map_part_cases}
use borrow.Author.Rules.{rules}
use Rattle.board_open.proofs.opening.map.Goals as goal

pub turns-requires : goal.turns-requires
turns-requires c = search (rules, map_part_cases)

pub slice_bounds-result-end : goal.slice_bounds-result-end
slice_bounds-result-end c = search (rules, map_part_cases)

pub returns : goal.returns
returns c = search (rules, map_part_cases)
