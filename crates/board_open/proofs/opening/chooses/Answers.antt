-- chooses: whether any bytes choose turn t as a board; they choose none that they do not have.
use Rattle.board_open.proofs.Chosen.{chosen_cases}
use borrow.Author.Rules.{rules}
use Rattle.board_open.proofs.opening.chooses.Goals as goal

pub returns-then-is_malformed : goal.returns-then-is_malformed
returns-then-is_malformed c = search (rules, chosen_cases)

pub turns-requires : goal.turns-requires
turns-requires c = search (rules, chosen_cases)

pub returns : goal.returns
returns c = search (rules, chosen_cases)

pub returns-then-t-from : goal.returns-then-t-from
returns-then-t-from c = search (rules, chosen_cases)
