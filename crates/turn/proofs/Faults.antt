-- A turn's first fault by its cases, each premise in the form in which the code's calls and tests leave it. Assumes nothing.
use Prim.Native.Nat.{◌<◌, ◌≤◌}
use mathlib.Core.Path.{◌≡◌}
use mathlib.Core.Bool.{Bool, true, false}
use borrow.Author.Tests.{lt-ltb, le-ltb}
use Rattle.refusal.specs.Number.{bad_time, bad_worth, bad_driver}
use Rattle.refusal.specs.Cause.{first_of}
use Rattle.turn.specs.declared.Turn.{Turn}
use Rattle.turn.specs.declared.Counts.{Counts}
use Rattle.turn.specs.Turn.{Refusals}
use Rattle.turn.specs.Turn.{outside_range, past_shift, turn_causes, most_worth, most_driver}

module _ (refusals : Refusals) (limits : Counts) (t : Turn) {a : Bool} (p : a ≡ outside_range t.slope limits.slopes) where
  pub fault_slope : a ≡ true → refusals.slope ≡ first_of (turn_causes refusals limits t)
  unfolding first_of turn_causes
  fault_slope h = rw (← p, h)

  module _ {b : Bool} (f : a ≡ false) (q : b ≡ outside_range t.groomer limits.groomers) where
    pub fault_groomer : b ≡ true → refusals.groomer ≡ first_of (turn_causes refusals limits t)
    unfolding first_of turn_causes
    fault_groomer h = rw (← p, f, ← q, h)

    module _ {c : Bool} (g : b ≡ false) (r : c ≡ past_shift t.start t.length) where
      pub fault_time : c ≡ true → bad_time ≡ first_of (turn_causes refusals limits t)
      unfolding first_of turn_causes
      fault_time h = rw (← p, f, ← q, g, ← r, h)

      module _ {d : Bool} (i : c ≡ false) (s : d ≡ outside_range t.worth most_worth) where
        pub fault_worth : d ≡ true → bad_worth ≡ first_of (turn_causes refusals limits t)
        unfolding first_of turn_causes
        fault_worth h = rw (← p, f, ← q, g, ← r, i, ← s, h)

        pub fault_driver : d ≡ false → most_driver < t.driver → bad_driver ≡ first_of (turn_causes refusals limits t)
        unfolding first_of turn_causes
        fault_driver h l = rw (← p, f, ← q, g, ← r, i, ← s, h, lt-ltb most_driver t.driver l)

        pub fault_none : d ≡ false → t.driver ≤ most_driver → 0 ≡ first_of (turn_causes refusals limits t)
        unfolding first_of turn_causes
        fault_none h l = rw (← p, f, ← q, g, ← r, i, ← s, h, le-ltb most_driver t.driver l)

pub ruleset fault_cases = (fault_slope, fault_groomer, fault_time, fault_worth, fault_driver, fault_none)
