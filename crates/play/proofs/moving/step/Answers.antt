-- `step` meets its contract: a minute of one groomer.
use Rattle.play.proofs.Steps.{step_cases}
use borrow.Author.Rules.{rules}
use Rattle.play.proofs.moving.step.Goals as goal

pub returns : goal.returns
returns c = search (rules, step_cases)
