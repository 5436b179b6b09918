-- Invariant: the flag says whether no open turn below t, of j's groomer or driver, ends before j.
use Rattle.local_ratio.specs.Below.{earliest_below}
use Rattle.instance.specs.Columns.{turns_by}
use mathlib.Core.Path.{◌≡◌}
use Prim.Native.Nat.{◌≤◌}
use Rattle.check_board.proofs.orders.is_earliest.Given as goal

abbrev pub invariant-loop-t : goal.invariant-loop-t
invariant-loop-t l = (l.t ≤ l.p.count) × (l.all ≡ earliest_below (turns_by l.p l.cols) l.residuals l.j l.t)
