-- open: 12 where the bytes are no board, else 0.
use Rattle.board_open.proofs.Openings.{open_cases}
use borrow.Author.Rules.{rules}
use Rattle.board_open.proofs.opening.open.Goals as goal

pub returns-then-is_malformed : goal.returns-then-is_malformed
returns-then-is_malformed c = search (rules, open_cases)

pub returns-else-is_malformed : goal.returns-else-is_malformed
returns-else-is_malformed c = search (rules, open_cases)
