-- Invariant: the window has drawn up to minute m.
use Rattle.charge.specs.Supply.{Drawn}
use Rattle.hall_moves.proofs.draw_window.Given as goal

abbrev pub invariant-loop-m : goal.invariant-loop-m
invariant-loop-m l = Drawn l.r.start l.r.groomer l.m l.initial.drawn l.drawn
