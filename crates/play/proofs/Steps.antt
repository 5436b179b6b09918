-- A minute of one groomer: what it adds to a packed standing, by cases; the sum's parts are the standing a minute later. Assumes nothing.
use mathlib.Core.Path.{◌≡◌, ◌∙◌, ap}
use mathlib.Core.List.{List}
use Prim.Native.Nat.{ℕ, ◌+◌, ◌*◌, ◌<◌, ◌≤◌, ◌/◌, ◌%◌}
use native.Mathlib.Omega.{arith}
use borrow.Author.Tests.{lt-ltb, le-ltb}
use Rattle.turn.specs.Turn.{shift_minutes}
use Rattle.play_spec.specs.declared.Stint.{Stint}
use Rattle.play_spec.specs.declared.Standing.{Standing}
use Rattle.play_spec.specs.Day.{over_minutes, Doing, works, drives, stands}
use Rattle.play_spec.specs.DayTable.{stint_in, doing_by}
use Rattle.play_spec.specs.Standing.{no_turn_number, fresh_of, moved_by, total_of}
use Rattle.play_spec.specs.Minutes.{begun_of, step_of, MinuteReady}
use Rattle.play.specs.Packed.{driving_unit, standing_unit, turn_unit, packed_counts, packed}

-- ---- what a minute adds

module _ (turn begin end m : ℕ) where
  abbrev stint : Stint
  stint = record { turn = turn; begin = begin; end = end }

  pub added_stands : m < begin → standing_unit + no_turn_number * turn_unit ≡ packed (moved_by fresh_of (doing_by stint m))
  unfolding moved_by doing_by
  added_stands l = rw (lt-ltb m begin l)

  pub added_works : begin ≤ m → m < end → 1 + turn * turn_unit ≡ packed (moved_by fresh_of (doing_by stint m))
  unfolding moved_by doing_by
  added_works a l = rw (le-ltb m begin a, lt-ltb m end l)

  pub added_drives : begin ≤ m → end ≤ m → driving_unit + no_turn_number * turn_unit ≡ packed (moved_by fresh_of (doing_by stint m))
  unfolding moved_by doing_by
  added_drives a l = rw (le-ltb m begin a, le-ltb m end l)

pub ruleset added_cases = (added_stands, added_works, added_drives)

-- ---- the sum

-- the standing that a number packs
abbrev unpacked : ℕ → Standing
unpacked x = record { working = x % driving_unit; driving = x / driving_unit % driving_unit; standing = x / standing_unit % driving_unit; turn = x / turn_unit }

-- a number by its parts
low : (x a c : ℕ) → a < driving_unit → x ≡ a + c * driving_unit → x % driving_unit ≡ a
low x a c l e = omega (arith, e)

parts : (x w d s t : ℕ) → w < driving_unit → d < driving_unit → s < driving_unit → x ≡ w + d * driving_unit + s * standing_unit + t * turn_unit → unpacked x ≡ record { working = w; driving = d; standing = s; turn = t }
parts x w d s t lw ld ls e =
    let ew : x % driving_unit ≡ w = low x w (d + s * driving_unit + t * standing_unit) lw (omega (arith, e)) in
    let ed : x / driving_unit % driving_unit ≡ d = low (x / driving_unit) d (s + t * driving_unit) ld (omega (arith, e, lw)) in
    let es : x / standing_unit % driving_unit ≡ s = low (x / standing_unit) s t ls (omega (arith, e, lw, ld)) in
    let et : x / turn_unit ≡ t = omega (arith, e, lw, ld, ls) in
    λ i. record { working = ew i; driving = ed i; standing = es i; turn = et i }

module _ (s : Standing) (room : total_of s < shift_minutes) where
  moved_parts : (d : Doing) → unpacked (packed_counts s + packed (moved_by fresh_of d)) ≡ moved_by s d
  unfolding moved_by
  moved_parts (works u) = parts _ (s.working + 1) s.driving s.standing u (omega (arith, room)) (omega (arith, room)) (omega (arith, room)) (omega arith)
  moved_parts drives = parts _ s.working (s.driving + 1) s.standing no_turn_number (omega (arith, room)) (omega (arith, room)) (omega (arith, room)) (omega arith)
  moved_parts stands = parts _ s.working s.driving (s.standing + 1) no_turn_number (omega (arith, room)) (omega (arith, room)) (omega (arith, room)) (omega arith)

  pub sum_is : (k : Stint) (m : ℕ) {a : ℕ} → a ≡ packed (moved_by fresh_of (doing_by k m)) → unpacked (packed_counts s + a) ≡ moved_by s (doing_by k m)
  sum_is k m e = rw e (moved_parts (doing_by k m))

-- ---- a step

module _ (s : Standing) (table : List ℕ) (g m : ℕ) {b : Standing} (e : b ≡ begun_of s m) where
  pub step_is : {k : Stint} {r : Standing} → k ≡ stint_in table g (b.driving / over_minutes) → r ≡ moved_by b (doing_by k m) → r ≡ step_of s table g m
  unfolding step_of
  step_is f h = let q = f ∙ ap (λ (x : Standing). stint_in table g (x.driving / over_minutes)) e in h ∙ (λ i. moved_by (e i) (doing_by (q i) m))

  module _ (r : MinuteReady table g m s) where
    pub begun_room : total_of b < shift_minutes
    begun_room = let t : total_of b ≡ total_of (begun_of s m) = ap total_of e in omega (arith, t, r.3, r.2)

pub ruleset step_cases = (step_is, begun_room)
