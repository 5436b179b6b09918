-- rules_fault: the first cause that the choice or the steps give; if none, the ceiling of the steps.
use Rattle.check_board.proofs.Judgements.{rules_choice, rules_steps}
use Rattle.refusal.proofs.Numbers.{refuses}
use borrow.Author.Rules.{rules}
use Rattle.check_board.proofs.judge.rules_fault.Goals as goal

pub returns-in_err-choice_fault-clause-refused : goal.returns-in_err-choice_fault-clause-refused
returns-in_err-choice_fault-clause-refused c = rules_choice _ _ _ (search rules) (refuses c.from_residual.result (search rules))

pub returns-clause-refused : goal.returns-clause-refused
returns-clause-refused c = search (rules, rules_steps)
