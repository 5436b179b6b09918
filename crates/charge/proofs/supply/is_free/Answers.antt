-- is_free: whether a window's vehicle is not among those of the chosen ones.
use Rattle.charge.proofs.Supplies.{lasts_cases}
use borrow.Author.Rules.{rules}
use Rattle.charge.proofs.supply.is_free.Goals as goal

pub returns : goal.returns
returns c = search (rules, lasts_cases)
