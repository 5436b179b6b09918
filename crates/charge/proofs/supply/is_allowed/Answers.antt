-- is_allowed: whether a window can be beside the chosen ones: its vehicle is not among them, and the supply lasts.
use Rattle.charge.proofs.Supplies.{lasts_cases}
use borrow.Author.Rules.{rules}
use Rattle.charge.proofs.supply.is_allowed.Goals as goal

pub returns-then-is_free : goal.returns-then-is_free
returns-then-is_free c = search (rules, lasts_cases)

pub returns-else-is_free : goal.returns-else-is_free
returns-else-is_free c = search (rules, lasts_cases)
