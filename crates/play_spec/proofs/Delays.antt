-- The test of the delays says what the words say. Assumes nothing.
use mathlib.Core.Path.{◌≡◌}
use mathlib.Core.Bool.{true}
use mathlib.Core.List.{List}
use Prim.Native.Nat.{ℕ, suc, ◌≤◌, ◌<◌}
use native.Mathlib.Omega.{arith}
use lib.Dec.{ltb}
use lib.ListN.{length}
use borrow.Author.Tests.{lt-ltb, ltb-true}
use Rattle.lists.proofs.Bools.{every_at, every_of}
use Rattle.play_spec.specs.Day.{most_delay, delay_in, delays_fit}
use Rattle.play_spec.specs.DayTable.{DelaysFit}

pub fit_delays : (delays : List ℕ) (n : ℕ) → n ≡ length delays → delays_fit delays n ≡ true → DelaysFit delays n
unfolding delays_fit
fit_delays delays n e w = (omega arith, λ u l. let k : delay_in delays u < suc most_delay = ltb-true (delay_in delays u) (suc most_delay) (every_at (λ v. ltb (delay_in delays v) (suc most_delay)) n w u l) in omega (arith, k))

pub fit_of : (delays : List ℕ) (n : ℕ) → ((u : ℕ) → u < n → delay_in delays u ≤ most_delay) → delays_fit delays n ≡ true
unfolding delays_fit
fit_of delays n h = every_of (λ u. ltb (delay_in delays u) (suc most_delay)) n (λ u l. let k = h u l in lt-ltb (delay_in delays u) (suc most_delay) (omega (arith, k)))
