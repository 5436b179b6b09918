-- outside_range: whether x, however wide, is outside 1 to top.
use borrow.Author.Tests.{eq-eqb, ne_eqb}
use Rattle.turn.specs.Turn.{outside_range}
use Rattle.turn.proofs.outside_range.Goals as goal

pub returns-then-x-eq0 : goal.returns-then-x-eq0
unfolding outside_range
returns-then-x-eq0 c = simp (eq-eqb _ _ c.if-x-eq0.true)

pub returns-else-x-eq0 : goal.returns-else-x-eq0
unfolding outside_range
returns-else-x-eq0 c = simp (ne_eqb _ _ c.if-x-eq0.false)
