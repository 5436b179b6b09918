-- Invariant: at each of the first i places is the row of the turn that stands there.
use Rattle.instance.specs.Placing.{RowsBy}
use Rattle.instance.specs.Columns.{column_places}
use lib.ListN.{length}
use mathlib.Core.Path.{◌≡◌}
use Rattle.instance.proofs.by_end.put_rows.Given as goal

abbrev pub invariant-loop-i : goal.invariant-loop-i
invariant-loop-i l = (length l.own ≡ column_places) × RowsBy l.cols l.order l.own l.i
