-- Invariant: the answer so far is whether there is room at the minutes gone through.
use mathlib.Core.Path.{◌≡◌}
use Rattle.charge.specs.Supply.{lasts_for}
use Rattle.charge.proofs.supply.lasts_from.Given as goal

abbrev pub invariant-loop-drawn : goal.invariant-loop-drawn
invariant-loop-drawn l = l.all ≡ lasts_for l.fn.used l.fn.from l.fn.room l.drawn-index
