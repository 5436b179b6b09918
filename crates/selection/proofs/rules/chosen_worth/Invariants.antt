-- Invariant: the sum is the worth of the chosen turns below t.
use Rattle.model.specs.Choice.{chosen}
use Rattle.choice_map.specs.Choice.{choice_in}
use Rattle.instance.specs.Columns.{turns_by}
use mathlib.Core.Path.{◌≡◌}
use Prim.Native.Nat.{◌*◌, ◌≤◌}
use Rattle.selection.proofs.rules.chosen_worth.Given as goal

abbrev pub invariant-loop-t : goal.invariant-loop-t
invariant-loop-t l = (l.sum ≤ 65535 * l.t) × (l.sum ≡ chosen l.t (choice_in l.p.count l.map) (turns_by l.p l.cols).worth)
