-- put_sums: all sums of a list with a price for each minute.
use native.Mathlib.Omega.{arith}
use borrow.Author.Rules.{rules}
use Rattle.hall_look.proofs.SumCases.{price_is, sums_start, sums_more}
use Rattle.hall_look.proofs.sums.put_sums.Goals as goal

pub loop-m-init : goal.loop-m-init
loop-m-init c = search (rules, sums_start)

pub loop-m-preserved : goal.loop-m-preserved
loop-m-preserved c = sums_more _ _ c.loop-m.invariant (omega arith) (price_is _ _ c.from-sum.ensures) (omega (arith, c.type_inv.prices c.loop-m.m))
