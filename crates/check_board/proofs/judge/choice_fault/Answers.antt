-- choice_fault: the first cause that the choice gives, if any.
use Rattle.check_board.proofs.Judgements.{choice_cases}
use borrow.Author.Rules.{rules}
use Rattle.check_board.proofs.judge.choice_fault.Goals as goal

pub returns-then-not-is_independent : goal.returns-then-not-is_independent
returns-then-not-is_independent c = search (rules, choice_cases)

pub returns-then-not-is_maximal : goal.returns-then-not-is_maximal
returns-then-not-is_maximal c = search (rules, choice_cases)

pub returns : goal.returns
returns c = search (rules, choice_cases)
