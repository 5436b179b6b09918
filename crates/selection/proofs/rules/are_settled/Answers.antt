-- are_settled: the goals that the laws of the crate answer.
use borrow.Author.Rules.{rules}
use Rattle.selection.proofs.Chosen.{lent_cases, all_cases, next_cases}
use Rattle.selection.proofs.rules.are_settled.Goals as goal
use Rattle.selection.proofs.rules.are_settled.Goals.{else-not-is_chosen-via-then-not-is_chosen+else-fits_beside, else-not-is_chosen-via-else-not-is_chosen}

pub loop-t-init : goal.loop-t-init
loop-t-init c = search (rules, all_cases)

pub fits_beside-requires : goal.fits_beside-requires
fits_beside-requires c = search (rules, lent_cases)

pub returns-then-fits_beside : goal.returns-then-fits_beside
returns-then-fits_beside c = search next_cases

pub loop-t-preserved : goal.loop-t-preserved
loop-t-preserved c =
    elim c.else-not-is_chosen.branch [
      | else-not-is_chosen-via-then-not-is_chosen+else-fits_beside w ↦ search next_cases
      | else-not-is_chosen-via-else-not-is_chosen w ↦ search next_cases
    ]

pub returns : goal.returns
returns c = search (rules, all_cases)
