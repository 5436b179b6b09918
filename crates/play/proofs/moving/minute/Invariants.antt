-- Invariant: the first g groomers of the list are moved, the rest is as it was and ready for the minute.
use Rattle.play_spec.proofs.Moves.{Mid}
use Rattle.play.proofs.moving.minute.Given as goal

abbrev pub invariant-loop-g : goal.invariant-loop-g
invariant-loop-g l = Mid l.n l.initial.list l.table l.m l.g l.list
