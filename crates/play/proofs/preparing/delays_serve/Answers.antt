-- delays_serve: whether the table of delays has a number for each of n turns, none above the limit.
use Rattle.play.proofs.Answers.{serves_cases}
use borrow.Author.Rules.{rules}
use Rattle.play.proofs.preparing.delays_serve.Goals as goal

pub returns-then-delays-n : goal.returns-then-delays-n
returns-then-delays-n c = search (rules, serves_cases)

pub returns-else-delays-n : goal.returns-else-delays-n
returns-else-delays-n c = search (rules, serves_cases)
