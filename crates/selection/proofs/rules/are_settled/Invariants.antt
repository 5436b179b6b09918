-- Invariant: each turn below t is chosen or conflicts with a chosen one.
use Rattle.selection.specs.Below.{maximal_below}
use Rattle.choice_map.specs.Choice.{choice_in}
use Rattle.instance.specs.Columns.{turns_by}
use mathlib.Core.Bool.{true}
use mathlib.Core.Path.{◌≡◌}
use Rattle.selection.proofs.rules.are_settled.Given as goal

abbrev pub invariant-loop-t : goal.invariant-loop-t
invariant-loop-t l = maximal_below (turns_by l.p l.cols) (choice_in l.p.count l.map) l.t ≡ true
