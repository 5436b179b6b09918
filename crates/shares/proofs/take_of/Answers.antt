-- take_of: what a step on a window of row x takes from one of row y.
use Rattle.shares.proofs.Shares.{take_cases}
use borrow.Author.Rules.{rules}
use Rattle.shares.proofs.take_of.Goals as goal

pub returns-then-x-y : goal.returns-then-x-y
returns-then-x-y c = search (rules, take_cases)

pub returns-else-x-y : goal.returns-else-x-y
returns-else-x-y c = (search take_cases, search take_cases)
