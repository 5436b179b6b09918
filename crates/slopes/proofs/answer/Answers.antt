-- answer: puts what is to be printed for a sheet to the front of the text; returns its bytes.
use Rattle.slopes.proofs.Answered.{answer_cases}
use borrow.Author.Rules.{rules}
use Rattle.slopes.proofs.answer.Goals as goal

pub returns-then-a-eq0 : goal.returns-then-a-eq0
returns-then-a-eq0 c = search (rules, answer_cases)

pub returns-else-a-eq0 : goal.returns-else-a-eq0
returns-else-a-eq0 c = search (rules, answer_cases)
