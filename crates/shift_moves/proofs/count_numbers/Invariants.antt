-- Invariant: the turns before place i of the list are counted.
use Rattle.shift_moves.specs.Moves.{number_behind}
use Rattle.shift_moves.proofs.PayerCases.{CountedTo}
use Rattle.shift_moves.proofs.count_numbers.Given as goal

abbrev pub invariant-loop-t : goal.invariant-loop-t
invariant-loop-t l = CountedTo l.taken (number_behind l.numbers l.at) l.times l.t-index
