-- cost_of: what a window's minutes cost together.
use Rattle.hall_look.proofs.SumCases.{cost_below, cost_is, cost_most}
use Rattle.hall_look.proofs.sums.cost_of.Goals as goal

pub overflow_sub-result : goal.overflow_sub-result
overflow_sub-result c = rw (c.from.ensures, c.from-2.ensures) (cost_below _ _ c.requires.1 _ c.requires.0)

pub returns : goal.returns
returns c = rw (c.from.ensures, c.from-2.ensures) (cost_is _ _ c.requires.1 _ c.requires.0, cost_most _ _ c.requires.1 _ c.requires.0)
