-- Invariant: the sums of the first 0 to j places are put, and no place before the loop's first has a driver.
use Rattle.shift_look.specs.OrdersAndCounts.{turns_in, NamedFrom, SumsTo}
use Rattle.shift_look.proofs.sums.put_sums.Given as goal

abbrev pub invariant-loop-j : goal.invariant-loop-j
invariant-loop-j l = (NamedFrom (turns_in l.e l.cols) l.e.size.count l.initial.j × SumsTo (turns_in l.e l.cols) l.e.slopes l.prices l.sums l.j)
