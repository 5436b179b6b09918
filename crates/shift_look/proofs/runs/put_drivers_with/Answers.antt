-- put_drivers_with: puts the turns in the drivers' order, in a place for it, and then with their runs into the orders.
use Rattle.best_table.proofs.BlockedCases.{order_first}
use borrow.Author.Rules.{rules}
use Rattle.shift_look.proofs.runs.put_drivers_with.Goals as goal

pub put_runs-requires : goal.put_runs-requires
put_runs-requires c = (search rules, search order_first)
