-- is_malformed: whether the bytes are no board.
use Rattle.board_open.proofs.Openings.{open_cases}
use borrow.Author.Rules.{rules}
use Rattle.board_open.proofs.opening.is_malformed.Goals as goal

pub returns-then-b-lt-HEADER_BYTES : goal.returns-then-b-lt-HEADER_BYTES
returns-then-b-lt-HEADER_BYTES c = search (rules, open_cases)

pub returns-then-opens_with : goal.returns-then-opens_with
returns-then-opens_with c = search (rules, open_cases)

pub returns-else-opens_with : goal.returns-else-opens_with
returns-else-opens_with c = search (rules, open_cases)
