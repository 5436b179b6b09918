-- plan_kind: the plan of one kind into a map that has none chosen; returns its worth.
use Rattle.charge.proofs.Charges.{kind_cases}
use borrow.Author.Rules.{rules}
use Rattle.charge.proofs.plan_kind.Goals as goal

pub choose_windows-requires : goal.choose_windows-requires
choose_windows-requires c = search (rules, kind_cases)

pub returns : goal.returns
returns c = search (rules, kind_cases)
