-- Invariant: the decimals of the rest, then the digits put down after place k, are the decimals of x. Measure: the rest.
use Prim.Native.Nat.{◌+◌, ◌<◌, ◌≤◌, ◌^◌}
use mathlib.Core.Path.{◌≡◌}
use mathlib.Core.List.{◌++◌}
use lib.ListN.{length, drop}
use Rattle.text.specs.Decimal.{decimal}
use Rattle.text.proofs.spell.Given as goal

abbrev pub invariant-loop-rest : goal.invariant-loop-rest
invariant-loop-rest l = (l.k ≤ 9) × (length l.space ≡ 10) × (length l.space ≡ length l.initial.space) × (l.rest < 10 ^ (l.k + 1)) × (decimal l.rest ++ drop (l.k + 1) l.space ≡ decimal l.x)

abbrev pub decreases-loop-rest : goal.decreases-loop-rest
decreases-loop-rest l = l.rest
