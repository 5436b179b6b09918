-- The number of the first cause to refuse, by cases. Assumes nothing.
use Prim.Native.Nat.{ℕ, ◌≤◌, ◌<◌}
use mathlib.Core.Path.{◌≡◌}
use mathlib.Core.Bool.{true, false}
use mathlib.Core.List.{List}
use borrow.Author.Tests.{lt-ltb, le-ltb}
use Rattle.refusal.specs.Number.{buffer_too_small, bad_delays}
use Rattle.refusal.specs.Cause.{first_of}
use Rattle.refusal.proofs.Order.{first_goes}
use Rattle.sheet.specs.Read.{counts_in, turn_count}
use Rattle.check_spec.specs.Check.{check_causes}
use Rattle.check_spec.proofs.Passing.{check_numbered}
use Rattle.play_spec.specs.Play.{serves_for, lent_causes, play_causes}

pub check_passed : (s b delays : List ℕ) (places : ℕ) → first_of (check_causes s b) ≡ 0 → first_of (play_causes s b delays places) ≡ first_of (lent_causes (counts_in s).groomers (turn_count s) delays places)
unfolding play_causes
check_passed s b delays places e = first_goes (check_causes s b) _ (check_numbered s b) e

module _ (groomers n : ℕ) (delays : List ℕ) (places : ℕ) where
  pub by_delays : serves_for n delays ≡ false → first_of (lent_causes groomers n delays places) ≡ bad_delays
  unfolding lent_causes first_of
  by_delays d = rw d

  pub by_places : serves_for n delays ≡ true → places < groomers → first_of (lent_causes groomers n delays places) ≡ buffer_too_small
  unfolding lent_causes first_of
  by_places d l = rw (d, lt-ltb places groomers l)

  pub by_none : serves_for n delays ≡ true → groomers ≤ places → first_of (lent_causes groomers n delays places) ≡ 0
  unfolding lent_causes first_of
  by_none d l = rw (d, le-ltb places groomers l)
