-- write_plan: plans both kinds, each into a map of its own, and copies one of them out: the wide windows' only if it earns more than the other.
use Rattle.charge.proofs.Charges.{greater_cases}
use Rattle.selection.proofs.Unchosen.{zeros_cases}
use borrow.Author.Rules.{rules}
use Rattle.charge.proofs.write_plan.Goals as goal

pub plan_kind-wide-requires : goal.plan_kind-wide-requires
plan_kind-wide-requires c = search (rules, zeros_cases, greater_cases)

pub plan_kind-small-requires : goal.plan_kind-small-requires
plan_kind-small-requires c = search (rules, zeros_cases, greater_cases)

pub returns-then-small-wide : goal.returns-then-small-wide
returns-then-small-wide c = search (rules, greater_cases)

pub returns-else-small-wide : goal.returns-else-small-wide
returns-else-small-wide c = search (rules, greater_cases)
