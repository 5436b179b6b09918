-- No refusal has the number 0, which stands for none, so a result that is an error has another. Assumes nothing.
use Prim.Native.Nat.{◌≤◌}
use mathlib.Core.Path.{◌≡◌, sym}
use mathlib.Core.Bool.{true≢false}
use native.Mathlib.Omega.{arith}
use Rattle.std.specs.Prelude.{Result, Ok, Err, IsErr, OnOk}
use Rattle.refusal.specs.declared.Refusal.{Refusal}
use Rattle.refusal.specs.declared.Refusal.TheVariants.{Truncated, BadMagic, BadCounts, TooManyTurns, BadMap, BadSlope, BadGroomer, BadTime, BadWorth, TrailingBytes, BufferTooSmall, MalformedBoard, ChosenConflict, NotMaximal, WrongStep, TurnLeftOpen, WrongSums, PartialTurn, BadDriver, TooManyForShort, NotSingleTurns, TooManyToSearch, BadSeed, BadDelays, BadDraw, BadPrices, Other}
use Rattle.refusal.specs.Failure.{number_of, failure}

pub number_from : (k : Refusal) → 1 ≤ number_of k
number_from Truncated = omega arith
number_from BadMagic = omega arith
number_from BadCounts = omega arith
number_from TooManyTurns = omega arith
number_from BadMap = omega arith
number_from BadSlope = omega arith
number_from BadGroomer = omega arith
number_from BadTime = omega arith
number_from BadWorth = omega arith
number_from TrailingBytes = omega arith
number_from BufferTooSmall = omega arith
number_from MalformedBoard = omega arith
number_from ChosenConflict = omega arith
number_from NotMaximal = omega arith
number_from WrongStep = omega arith
number_from TurnLeftOpen = omega arith
number_from WrongSums = omega arith
number_from PartialTurn = omega arith
number_from BadDriver = omega arith
number_from TooManyForShort = omega arith
number_from NotSingleTurns = omega arith
number_from TooManyToSearch = omega arith
number_from BadSeed = omega arith
number_from BadDelays = omega arith
number_from BadDraw = omega arith
number_from BadPrices = omega arith
number_from (Other n) = omega (arith, n.other)

pub no_zero : (k : Refusal) → number_of k ≡ 0 → ⊥
no_zero k z = omega (arith, z, number_from k)

pub refuses : {A : Type 0} (r : Result A Refusal) → IsErr r → failure r ≡ 0 → ⊥
refuses (Ok a) h z = absurd (true≢false (sym h))
refuses (Err k) h z = omega (arith, number_from k)

pub refuses_with : {A : Type 0} {r : Result A Refusal} {k : Refusal} → r ≡ Err k → failure r ≡ number_of k
refuses_with e = rw e

pub passes : {A : Type 0} {r : Result A Refusal} {a : A} → r ≡ Ok a → failure r ≡ 0
passes e = rw e

-- what holds anyhow holds where nothing refused
pub on_ok : {A P : Type 0} (r : Result A Refusal) → P → OnOk r P
on_ok (Ok a) p = p
on_ok (Err k) p = record {}
