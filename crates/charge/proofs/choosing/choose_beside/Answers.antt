-- choose_beside: the windows of a list of numbers that are of the kind, or any, from its last to its first, beside those chosen before.
use borrow.Author.Rules.{rules}
use Rattle.selection.proofs.Fitting.{turn_inside}
use Rattle.selection.proofs.Numbers.{each_more}
use Rattle.charge.proofs.Allowed.{List-cases}
use Rattle.charge.proofs.choosing.choose_beside.Goals as goal

pub loop-i-init : goal.loop-i-init
loop-i-init c = (search rules, search rules, search List-cases)

pub add_if_meant-requires-clause-j_lt_count : goal.add_if_meant-requires-clause-j_lt_count
add_if_meant-requires-clause-j_lt_count c = search (rules, turn_inside)

pub loop-i-preserved : goal.loop-i-preserved
loop-i-preserved c = (search rules, search rules, each_more _ _ _ c.loop-i.i c.loop-i-test.true c.loop-i.auto.i (rw c.from.ensures at c.add_if_meant.ensures.map_after) c.loop-i.invariant.2)
