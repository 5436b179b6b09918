-- Invariant: no two chosen turns below x conflict, and the rows and flags gathered are theirs.
use Rattle.selection.specs.Gathered.{Gathered}
use Rattle.selection.specs.Below.{independent_below}
use Rattle.choice_map.specs.Choice.{choice_in}
use Rattle.instance.specs.Columns.{turns_by}
use mathlib.Core.Bool.{true}
use mathlib.Core.Path.{◌≡◌}
use Rattle.selection.proofs.rules.is_independent.Given as goal

abbrev pub invariant-loop-x : goal.invariant-loop-x
invariant-loop-x l =
    Gathered (turns_by l.p l.cols) (choice_in l.p.count l.map) l.x l.c l.rows l.flags × (independent_below (turns_by l.p l.cols) (choice_in l.p.count l.map) l.x ≡ true)
