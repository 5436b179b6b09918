-- Invariant: the rows below t stand as the engine gets them.
use Rattle.instance.specs.Columns.{column_places}
use lib.ListN.{length}
use mathlib.Core.Path.{◌≡◌}
use Rattle.hall_steps.proofs.OneKindLaws.{KindRows}
use Rattle.hall_steps.proofs.one_kind.put_kind.Given as goal

abbrev pub invariant-loop-t : goal.invariant-loop-t
invariant-loop-t l = (length l.own ≡ column_places) × KindRows l.a l.cols l.own l.t
