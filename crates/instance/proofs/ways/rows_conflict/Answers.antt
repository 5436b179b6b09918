-- rows_conflict: whether two rows conflict, by any way.
use Rattle.instance.proofs.Conflicting.{ways_cases}
use borrow.Author.Rules.{rules}
use Rattle.instance.proofs.ways.rows_conflict.Goals as goal

pub returns : goal.returns
returns c = search (rules, ways_cases)
