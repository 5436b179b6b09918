-- Invariant: what is put down, followed by the parts of the groomers left, is the part of all.
use Prim.Native.Nat.{◌+◌, ◌-◌}
use mathlib.Core.Path.{◌≡◌}
use lib.ListN.{length}
use Rattle.wire.specs.Number.{puts}
use Rattle.instance.specs.Columns.{turns_by}
use Rattle.choice_map.specs.Choice.{choice_in}
use Rattle.list_spec.specs.Text.{groomers_from}
use Rattle.list.proofs.parts.put_groomers.Given as goal

abbrev pub invariant-loop-groomer : goal.invariant-loop-groomer
invariant-loop-groomer l = (l.to + length (groomers_from (turns_by l.p l.cols) (choice_in l.p.count l.map) (l.groomer-end + 1 - l.groomer) l.groomer) ≡ length (groomers_from (turns_by l.p l.cols) (choice_in l.p.count l.map) l.groomers 1)) × (puts l.out l.to (groomers_from (turns_by l.p l.cols) (choice_in l.p.count l.map) (l.groomer-end + 1 - l.groomer) l.groomer) ≡ puts l.initial.out 0 (groomers_from (turns_by l.p l.cols) (choice_in l.p.count l.map) l.groomers 1))
