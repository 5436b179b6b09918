-- `added` meets its contract: what a minute adds to a packed standing.
use Rattle.play.proofs.Steps.{added_cases}
use borrow.Author.Rules.{rules}
use Rattle.play.proofs.moving.added.Goals as goal

pub returns-then-m-begin : goal.returns-then-m-begin
returns-then-m-begin c = (search (rules, added_cases), search rules)

pub returns-then-m-end : goal.returns-then-m-end
returns-then-m-end c = (search (rules, added_cases), search rules)

pub returns : goal.returns
returns c = (search (rules, added_cases), search rules)
