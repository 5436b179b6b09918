-- count: how many turns any bytes choose as a board.
use Rattle.board_open.proofs.Chosen.{chosen_cases}
use borrow.Author.Rules.{rules}
use Rattle.board_open.proofs.opening.count.Goals as goal

pub returns-then-is_malformed : goal.returns-then-is_malformed
returns-then-is_malformed c = search (rules, chosen_cases)

pub returns : goal.returns
returns c = search (rules, chosen_cases)
