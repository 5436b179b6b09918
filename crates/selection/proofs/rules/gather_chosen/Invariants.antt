-- Invariant: the rows and flags gathered are those of the chosen turns below x.
use Rattle.selection.specs.Gathered.{Gathered}
use Rattle.choice_map.specs.Choice.{choice_in}
use Rattle.instance.specs.Columns.{turns_by}
use Rattle.selection.proofs.rules.gather_chosen.Given as goal

abbrev pub invariant-loop-x : goal.invariant-loop-x
invariant-loop-x l = Gathered (turns_by l.fn.p l.cols) (choice_in l.fn.p.count l.map) l.x l.c l.rows l.flags
