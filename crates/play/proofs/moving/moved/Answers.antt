-- `moved` meets its contract: a standing moved by what a stint says of a minute.
use Rattle.play.proofs.Steps.{sum_is}
use borrow.Author.Rules.{rules}
use Rattle.play.proofs.moving.moved.Goals as goal

pub returns : goal.returns
returns c = search (rules, sum_is)
