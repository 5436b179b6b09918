-- plan_and_check: plans a sheet into lent bytes and checks the board that was written.
use Rattle.claim.proofs.Confirming.{confirm_refused, confirm_room, confirm_done}
use lib.Seq.{length-take-le}
use mathlib.Core.Path.{sym}
use borrow.Author.Rules.{rules}
use Rattle.claim.proofs.plan_and_check.Goals as goal

pub returns-then-fault-ne0 : goal.returns-then-fault-ne0
returns-then-fault-ne0 c = search (rules, confirm_refused)

pub slice_bounds-check-end : goal.slice_bounds-check-end
slice_bounds-check-end c = search (rules, confirm_room)

pub slice_bounds-check-end-2 : goal.slice_bounds-check-end-2
slice_bounds-check-end-2 c = sym (length-take-le _ _ (search (rules, confirm_room)))

pub returns : goal.returns
returns c = search (rules, confirm_done)
