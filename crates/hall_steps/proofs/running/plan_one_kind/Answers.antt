-- plan_one_kind: writes the steps of the kind that is meant; returns how many.
use Rattle.hall_steps.proofs.Planned.{one_kind_steps}
use borrow.Author.Rules.{rules}
use Rattle.hall_steps.proofs.running.plan_one_kind.Goals as goal

pub plan_by-made-requires : goal.plan_by-made-requires
plan_by-made-requires c = search (rules, one_kind_steps)

pub returns-clause-value : goal.returns-clause-value
returns-clause-value c = search one_kind_steps

pub returns-clause-out_after : goal.returns-clause-out_after
returns-clause-out_after c = search one_kind_steps
