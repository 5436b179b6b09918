-- cut_off: a minute, or the shift's end where that is earlier.
use Rattle.play.proofs.Rows.{cut_cases}
use borrow.Author.Rules.{rules}
use Rattle.play.proofs.days.cut_off.Goals as goal

pub returns : goal.returns
returns c = search (rules, cut_cases)
