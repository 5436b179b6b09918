-- put_kind: the goals that the laws of the crate answer.
use borrow.Author.Rules.{rules}
use Rattle.hall_steps.proofs.OneKindLaws.{one_kind_cases}
use Rattle.hall_steps.proofs.one_kind.put_kind.Goals as goal

pub loop-t-init : goal.loop-t-init
loop-t-init c = search (rules, one_kind_cases)

pub loop-t-preserved : goal.loop-t-preserved
loop-t-preserved c = search (rules, one_kind_cases)

pub returns : goal.returns
returns c = search (rules, one_kind_cases)
