-- past_shift: whether a turn has no length or ends after the shift.
use borrow.Author.Tests.{eq-eqb, ne_eqb}
use Rattle.turn.specs.Turn.{past_shift}
use Rattle.turn.proofs.past_shift.Goals as goal

pub returns-then-minutes-eq0 : goal.returns-then-minutes-eq0
unfolding past_shift
returns-then-minutes-eq0 c = simp (eq-eqb _ _ c.if-minutes-eq0.true)

pub returns-else-minutes-eq0 : goal.returns-else-minutes-eq0
unfolding past_shift
returns-else-minutes-eq0 c = simp (ne_eqb _ _ c.if-minutes-eq0.false)
