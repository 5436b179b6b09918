-- map_fault: the goals that the laws of the crate answer.
use Rattle.archive.proofs.RestoreCases.{map_fault_cases}
use borrow.Author.Rules.{rules}
use Rattle.archive.proofs.restoring.map_fault.Goals as goal

pub returns-then-bad_map_for : goal.returns-then-bad_map_for
returns-then-bad_map_for c = search (rules, map_fault_cases)

pub loop-m-preserved : goal.loop-m-preserved
loop-m-preserved c = search (rules, map_fault_cases)

pub returns : goal.returns
returns c = search (rules, map_fault_cases)
