-- fill_maps: the goals that the laws of the crate answer.
use Rattle.archive.proofs.KeepCases.{fill_cases}
use borrow.Author.Rules.{rules}
use Rattle.archive.proofs.keeping.fill_maps.Goals as goal

pub loop-i-preserved : goal.loop-i-preserved
loop-i-preserved c = (search rules, search rules, search (rules, fill_cases), search (rules, fill_cases))

pub returns : goal.returns
returns c = search (rules, fill_cases)
