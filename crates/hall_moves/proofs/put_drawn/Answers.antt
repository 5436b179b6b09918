-- put_drawn: the goals that the laws of the crate answer.
use Rattle.hall_moves.proofs.MoveCases.{set_drawn_cases}
use borrow.Author.Rules.{rules}
use Rattle.hall_moves.proofs.put_drawn.Goals as goal

pub loop-t-init : goal.loop-t-init
loop-t-init c = search (rules, set_drawn_cases)

pub draw_window-requires : goal.draw_window-requires
draw_window-requires c = search (rules, set_drawn_cases)

pub loop-t-smaller : goal.loop-t-smaller
loop-t-smaller c = search (rules, set_drawn_cases)

pub loop-t-preserved : goal.loop-t-preserved
loop-t-preserved c = search (rules, set_drawn_cases)

pub returns : goal.returns
returns c = search (rules, set_drawn_cases)
