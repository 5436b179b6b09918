-- net_at: what is left of turn t's worth.
use Rattle.shift_look.proofs.CountCases.{left_is}
use borrow.Author.Rules.{rules}
use Rattle.shift_look.proofs.counts.net_at.Goals as goal

pub returns : goal.returns
returns c = search (rules, left_is)
