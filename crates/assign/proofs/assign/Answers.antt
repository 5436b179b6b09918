-- assign: takes any bytes as a sheet, and writes the number of each turn's groomer into any lent places.
use mathlib.Core.Path.{refl, ◌∙◌}
use native.Mathlib.Omega.{arith}
use lib.Seq.{length-take-le}
use Rattle.refusal.proofs.Numbers.{no_zero}
use Rattle.instance.proofs.Posed.{loaded_held}
use Rattle.assign.proofs.Answers.{assign_fault, assign_small, assign_done}
use Rattle.assign.proofs.assign.Goals as goal

pub returns-in-Err : goal.returns-in-Err
returns-in-Err c = assign_fault _ _ _ c.in-Err.ensures (no_zero c.in-Err.fault) c.refused.ensures

pub returns-then-places-n : goal.returns-then-places-n
returns-then-places-n c = assign_small _ _ _ c.in-Ok.ensures refl c.refused-then-places-n.ensures (omega (arith, c.from-n.ensures, c.if-places-n.true))

pub number_turns-used-requires : goal.number_turns-used-requires
number_turns-used-requires c =
    (loaded_held _ _ c.in-Ok.ensures refl c.shift_size.ensures, rw c.shift_size.ensures (length-take-le _ _ c.if-places-n.false ∙ c.from-n.ensures), rw c.shift_size.ensures (omega arith))

pub returns : goal.returns
returns c =
    rw c.from-n.ensures (assign_done _ _ _ c.in-Ok.ensures refl c.shift_size.ensures c.number_turns-used.ensures.0 c.number_turns-used.ensures.1 (omega (arith, c.from-n.ensures, c.if-places-n.false)))
