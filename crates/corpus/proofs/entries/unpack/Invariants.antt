-- Invariant: the first i places hold the first i numbers.
use mathlib.Core.Path.{◌≡◌}
use lib.ListN.{take}
use Rattle.corpus.specs.Line.{numbers_in}
use Rattle.corpus.proofs.entries.unpack.Given as goal

abbrev pub invariant-loop-i : goal.invariant-loop-i
invariant-loop-i l = take l.i l.table ≡ numbers_in l.bytes l.i
