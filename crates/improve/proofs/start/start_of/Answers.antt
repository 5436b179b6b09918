-- start_of: the board is planned into a place of its own, with room for what planning puts down.
use Rattle.improve.proofs.StartCases.{place_cases}
use borrow.Author.Rules.{rules}
use Rattle.improve.proofs.start.start_of.Goals as goal

pub slice_bounds-space-end : goal.slice_bounds-space-end
slice_bounds-space-end c = search (rules, place_cases)

pub slice_bounds-b-end : goal.slice_bounds-b-end
slice_bounds-b-end c = search (rules, place_cases)

pub map-requires : goal.map-requires
map-requires c = search (rules, place_cases)

pub worth-requires : goal.worth-requires
worth-requires c = search (rules, place_cases)

pub word_of-requires : goal.word_of-requires
word_of-requires c = (search rules, search (rules, place_cases))

pub returns : goal.returns
returns c = search (rules, place_cases)
