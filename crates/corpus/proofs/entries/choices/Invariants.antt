-- Invariant: the first i places hold the choices of the first i turns.
use mathlib.Core.Path.{◌≡◌}
use lib.ListN.{take}
use Rattle.corpus.specs.Line.{choices_in}
use Rattle.corpus.proofs.entries.choices.Given as goal

abbrev pub invariant-loop-i : goal.invariant-loop-i
invariant-loop-i l = take l.i l.turns ≡ choices_in l.board l.i
