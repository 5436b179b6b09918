-- lasts: whether the supply has the window's draw left at each of its minutes.
use Rattle.charge.proofs.Supplies.{lasts_cases}
use borrow.Author.Rules.{rules}
use Rattle.charge.proofs.supply.lasts.Goals as goal

pub returns-then-end-start-lt-PART : goal.returns-then-end-start-lt-PART
returns-then-end-start-lt-PART c = search (rules, lasts_cases)

pub returns-else-end-start-lt-PART : goal.returns-else-end-start-lt-PART
returns-else-end-start-lt-PART c = search (rules, lasts_cases)
