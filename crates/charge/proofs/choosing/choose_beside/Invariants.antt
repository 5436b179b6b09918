-- Invariant: the map has what choosing from the list's last number down to number i makes beside what was chosen before, and the supply says what it uses.
use Rattle.model.specs.Choice.{choose_each}
use Rattle.choice_map.specs.Choice.{choice_in, Clean}
use Rattle.charge_spec.specs.Plan.{fits_among}
use Rattle.hall_steps.specs.OneKind.{kind_hall}
use Rattle.charge.specs.OneKind.{meant}
use Rattle.charge.specs.Supply.{Supplied}
use lib.ListN.{drop}
use mathlib.Core.Path.{◌≡◌}
use Rattle.charge.proofs.choosing.choose_beside.Given as goal

abbrev pub invariant-loop-i : goal.invariant-loop-i
invariant-loop-i l =
    Clean l.a.size.count l.map × Supplied (kind_hall l.a l.cols) (choice_in l.a.size.count l.map) l.used × (choice_in l.a.size.count l.map ≡ choose_each (fits_among (kind_hall l.a l.cols) (meant l.a l.any l.cols)) (drop l.i l.list) (choice_in l.a.size.count l.initial.map))
