-- Invariant: the prices before place k are moved, the others are as before.
use Rattle.shift_moves.proofs.MoveCases.{SlopesMoved}
use Rattle.shift_moves.proofs.move_slope_prices.Given as goal

abbrev pub invariant-loop-k : goal.invariant-loop-k
invariant-loop-k l = SlopesMoved l.change l.slopes l.payers l.initial.prices l.prices l.k
