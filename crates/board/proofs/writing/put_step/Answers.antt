-- put_step: writes step i.
use Rattle.board.proofs.StepBytes.{step_put}
use borrow.Author.Rules.{rules}
use Rattle.board.proofs.writing.put_step.Goals as goal

pub returns : goal.returns
returns c = search (rules, step_put)
