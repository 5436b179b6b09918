-- `prepare_days` meets its contract: what is known before the first minute, for a board that passes.
use Rattle.play.proofs.Answers.{days_cases}
use borrow.Author.Rules.{rules}
use Rattle.play.proofs.preparing.prepare_days.Goals as goal

pub returns-then-lent : goal.returns-then-lent
returns-then-lent c = search (rules, days_cases)

pub put_days-requires : goal.put_days-requires
put_days-requires c = search (rules, days_cases)

pub returns-then-delays_serve : goal.returns-then-delays_serve
returns-then-delays_serve c = search (rules, days_cases)

pub returns : goal.returns
returns c = search (rules, days_cases)
