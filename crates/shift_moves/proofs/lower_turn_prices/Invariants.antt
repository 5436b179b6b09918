-- Invariant: the prices of the turns before u are moved, all others are as before.
use Rattle.shift_moves.specs.Moves.{nobody}
use Rattle.shift_moves.proofs.MoveCases.{TurnsMoved}
use Rattle.shift_moves.proofs.lower_turn_prices.Given as goal

abbrev pub invariant-loop-u : goal.invariant-loop-u
invariant-loop-u l = TurnsMoved l.change l.e nobody l.initial.prices l.prices l.u
