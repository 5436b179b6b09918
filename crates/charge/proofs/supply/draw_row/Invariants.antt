-- Invariant: the draw is added at the minutes from the start to m, and nothing else is changed.
use Rattle.charge.specs.Supply.{Drawn}
use Rattle.charge.proofs.supply.draw_row.Given as goal

abbrev pub invariant-loop-m : goal.invariant-loop-m
invariant-loop-m l = Drawn l.fn.r.start l.draw l.m l.initial.used l.used
