-- answer: the worth of a hall's plan, and its map into any lent bytes.
use Rattle.charge.proofs.Charges.{charge_in_cases}
use borrow.Author.Rules.{rules}
use Rattle.charge.proofs.answer.Goals as goal

pub returns-then-map-size : goal.returns-then-map-size
returns-then-map-size c = search (rules, charge_in_cases)

pub returns : goal.returns
returns c = search (rules, charge_in_cases)
