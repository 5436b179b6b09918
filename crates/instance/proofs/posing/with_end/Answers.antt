-- with_end: a row that has a length where an end is due, put right.
use borrow.Author.Rules.{rules}
use Rattle.instance.proofs.Copying.{end_put}
use Rattle.instance.proofs.posing.with_end.Goals as goal

pub returns : goal.returns
returns c = search (rules, end_put)
