-- `begun` meets its contract: what a minute starts from.
use Rattle.play_spec.proofs.Moves.{begun_cases}
use borrow.Author.Rules.{rules}
use Rattle.play.proofs.moving.begun.Goals as goal

pub returns-then-m-eq0 : goal.returns-then-m-eq0
returns-then-m-eq0 c = search (rules, begun_cases)

pub returns : goal.returns
returns c = search (rules, begun_cases)
