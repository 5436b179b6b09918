-- turn_after: the turn of the five draws after x.
use Rattle.draw.proofs.Drawings.{five_cases}
use borrow.Author.Rules.{rules}
use Rattle.draw.proofs.turn_after.Goals as goal

pub returns : goal.returns
returns c = search (rules, five_cases)
