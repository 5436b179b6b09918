-- overlap: whether two stretches of minutes overlap, each with the gap after it.
use Rattle.instance.proofs.Conflicting.{ways_cases}
use borrow.Author.Rules.{rules}
use Rattle.instance.proofs.ways.overlap.Goals as goal

pub returns : goal.returns
returns c = search (rules, ways_cases)
