-- shared_of: what two turns share, whatever their minutes: the ways in which they could conflict.
use borrow.Author.Rules.{rules}
use Rattle.instance.proofs.Conflicting.{ways_cases}
use Rattle.instance.proofs.ways.shared_of.Goals as goal

pub returns : goal.returns
returns c = search (rules, ways_cases)
