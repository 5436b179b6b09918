-- bad_sizes: whether mark, counts or length are not those of a board.
use Rattle.board_open.proofs.Openings.{sizes_cases}
use borrow.Author.Rules.{rules}
use Rattle.board_open.proofs.opening.bad_sizes.Goals as goal

pub returns-then-n-m : goal.returns-then-n-m
returns-then-n-m c = search (rules, sizes_cases)

pub returns-then-b-board_bytes : goal.returns-then-b-board_bytes
returns-then-b-board_bytes c = search (rules, sizes_cases)

pub returns : goal.returns
returns c = search (rules, sizes_cases)
