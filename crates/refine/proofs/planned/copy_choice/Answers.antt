-- copy_choice: copies the map of a planned board; returns its worth.
use Rattle.refine.proofs.BoardCases.{plan_cases}
use borrow.Author.Rules.{rules}
use Rattle.refine.proofs.planned.copy_choice.Goals as goal

pub map-requires : goal.map-requires
map-requires c = search (rules, plan_cases)

pub copy_from_slice-requires : goal.copy_from_slice-requires
copy_from_slice-requires c = search (rules, plan_cases)

pub worth-requires : goal.worth-requires
worth-requires c = search (rules, plan_cases)

pub returns : goal.returns
returns c = search (rules, plan_cases)
