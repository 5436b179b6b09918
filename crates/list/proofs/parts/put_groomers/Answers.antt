-- put_groomers: the goals that the laws of the crate answer.
use borrow.Author.Rules.{rules}
use Rattle.list.proofs.PartCases.{parts_cases}
use Rattle.list.proofs.parts.put_groomers.Goals as goal

pub put_groomer-to-requires : goal.put_groomer-to-requires
put_groomer-to-requires c = search (rules, parts_cases)

pub loop-groomer-preserved : goal.loop-groomer-preserved
loop-groomer-preserved c = search (rules, parts_cases)

pub returns-clause-value : goal.returns-clause-value
returns-clause-value c = search (rules, parts_cases)

pub returns-clause-out_after : goal.returns-clause-out_after
returns-clause-out_after c = search (rules, parts_cases)

pub returns-2-clause-value : goal.returns-2-clause-value
returns-2-clause-value c = search (rules, parts_cases)

pub returns-2-clause-out_after : goal.returns-2-clause-out_after
returns-2-clause-out_after c = search (rules, parts_cases)
