-- share_of: twice the draw times the amount, divided by the units, rounded up.
use borrow.Author.Rules.{rules}
use Rattle.shares.proofs.Shares.{share_cases}
use Rattle.shares.proofs.share_of.Goals as goal

pub returns : goal.returns
returns c = (search (rules, share_cases), search (rules, share_cases))
