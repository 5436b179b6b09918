-- answer: answers a problem: refuses too few lent bytes; else writes the map of the best set and gives its worth.
use Rattle.best.proofs.AnswerCases.{problem_cases}
use borrow.Author.Rules.{rules}
use Rattle.best.proofs.answer.Goals as goal

pub returns-then-map-size : goal.returns-then-map-size
returns-then-map-size c = search (rules, problem_cases)

pub returns : goal.returns
returns c = search (rules, problem_cases)
