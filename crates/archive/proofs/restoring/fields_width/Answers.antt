-- fields_width: the goals that the laws of the crate answer.
use Rattle.archive.proofs.RestoreCases.{width_cases}
use borrow.Author.Rules.{rules}
use Rattle.archive.proofs.restoring.fields_width.Goals as goal

pub loop-m-preserved : goal.loop-m-preserved
loop-m-preserved c = search (rules, width_cases)

pub returns : goal.returns
returns c = (search (rules, width_cases), search rules)
