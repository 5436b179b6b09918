-- ways_of: the ways by which two rows conflict.
use Rattle.instance.proofs.Conflicting.{ways_cases}
use borrow.Author.Rules.{rules}
use Rattle.instance.proofs.ways.ways_of.Goals as goal

pub returns : goal.returns
returns c = search (rules, ways_cases)
