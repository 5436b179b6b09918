-- put_relaxed: the goals that the laws of the crate answer.
use Rattle.hall_look.proofs.RelaxedCases.{relaxed_cases}
use borrow.Author.Rules.{rules}
use Rattle.hall_look.proofs.relaxed.put_relaxed.Goals as goal

pub loop-number-init : goal.loop-number-init
loop-number-init c = search (rules, relaxed_cases)

pub put_before-requires : goal.put_before-requires
put_before-requires c = search (rules, relaxed_cases)

pub loop-number-preserved : goal.loop-number-preserved
loop-number-preserved c = search (rules, relaxed_cases)

pub returns : goal.returns
returns c = search (rules, relaxed_cases)
