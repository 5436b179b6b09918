-- put_before: sets the bit of window number - 1, and none where the number is 0.
use Prim.Native.Nat.{◌≤◌}
use native.Mathlib.Omega.{arith}
use Rattle.hall_look.proofs.RelaxedCases.{before_none, before_one}
use Rattle.hall_look.proofs.relaxed.put_before.Goals as goal

pub returns-in-Some : goal.returns-in-Some
returns-in-Some c = let h = c.in-Some.ensures in before_one _ _ (λ z. omega (arith, h.0)) (rw (c.from.ensures, h.1) at c.set_bit.ensures)

pub returns-in_default : goal.returns-in_default
returns-in_default c = let h : 1 ≤ c.args.number → ⊥ = c.in_default.ensures in before_none _ _ (omega (arith, h))
