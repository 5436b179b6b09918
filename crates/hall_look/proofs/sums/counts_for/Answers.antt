-- counts_for: what a window counts for.
use native.Mathlib.Omega.{arith}
use Rattle.hall_look.proofs.SumCases.{counts_are}
use Rattle.hall_look.proofs.sums.counts_for.Goals as goal

pub returns : goal.returns
returns c = (counts_are _ _ c.requires.1 _ c.requires.0 c.from.ensures c.from-2.ensures c.cost_of-cost.ensures.0 c.saturating_sub.ensures, omega (arith, c.requires.0.worth))
