-- delays_fit: whether each of the delays is within its limit.
use Rattle.play.proofs.Rows.{fit_cases}
use borrow.Author.Rules.{rules}
use Rattle.play.proofs.days.delays_fit.Goals as goal

pub loop-delay-init : goal.loop-delay-init
loop-delay-init c = search (rules, fit_cases)

pub returns-then-delay-gt-MOST_DELAY : goal.returns-then-delay-gt-MOST_DELAY
returns-then-delay-gt-MOST_DELAY c = search (rules, fit_cases)

pub loop-delay-preserved : goal.loop-delay-preserved
loop-delay-preserved c = search (rules, fit_cases)
