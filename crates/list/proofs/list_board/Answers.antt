-- list_board: the listing of the planner's board.
use Rattle.list.proofs.AnswerCases.{sums_cases}
use Rattle.list.proofs.list_board.Goals as goal

pub worth-requires : goal.worth-requires
worth-requires c = search sums_cases

pub tally-requires : goal.tally-requires
tally-requires c = search sums_cases

pub map-requires : goal.map-requires
map-requires c = search sums_cases

pub list_map-requires : goal.list_map-requires
list_map-requires c = (search sums_cases, search sums_cases)

pub returns : goal.returns
returns c = search sums_cases
