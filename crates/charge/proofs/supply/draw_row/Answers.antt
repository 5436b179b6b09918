-- draw_row: adds a window's draw at each of its minutes.
use borrow.Author.Rules.{rules}
use Rattle.charge.proofs.Supplies.{draw_fits}
use Rattle.charge.proofs.supply.draw_row.Goals as goal

pub overflow_add-used : goal.overflow_add-used
overflow_add-used c = search (rules, draw_fits)
