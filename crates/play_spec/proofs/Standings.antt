-- The standing after each minute of a day: the closed reading, and that the counts make all minutes played. Assumes nothing.
use mathlib.Core.Path.{◌≡◌, refl, ◌∙◌, ap}
use mathlib.Core.Bool.{Bool, cond}
use mathlib.Core.List.{List}
use Prim.Native.Nat.{ℕ, zero, suc, ◌+◌}
use native.Mathlib.Omega.{arith}
use Rattle.lists.specs.Order.{how_many}
use Rattle.play_spec.specs.declared.Stint.{Stint}
use Rattle.play_spec.specs.declared.Standing.{Standing}
use Rattle.play_spec.specs.Day.{Doing, works, drives, stands, doing_at, is_work, is_drive, is_stand}
use Rattle.play_spec.specs.Standing.{fresh_of, moved_by, standing_after, total_of, in_hand, StandingIs}
use Rattle.play_spec.proofs.Stints.{driven}

-- ---- one minute

pub moved_total : (b : Standing) (d : Doing) → total_of (moved_by b d) ≡ total_of b + 1
unfolding moved_by
moved_total b (works u) = omega arith
moved_total b drives = omega arith
moved_total b stands = omega arith

moved_turn : (s : Standing) (d : Doing) → (moved_by s d).turn ≡ in_hand d
unfolding moved_by in_hand
moved_turn s (works u) = refl
moved_turn s drives = refl
moved_turn s stands = refl

moved_working : (s : Standing) (d : Doing) → (moved_by s d).working ≡ cond (is_work d) 1 0 + s.working
unfolding moved_by is_work
moved_working s (works u) = omega arith
moved_working s drives = omega arith
moved_working s stands = omega arith

moved_driving : (s : Standing) (d : Doing) → (moved_by s d).driving ≡ cond (is_drive d) 1 0 + s.driving
unfolding moved_by is_drive
moved_driving s (works u) = omega arith
moved_driving s drives = omega arith
moved_driving s stands = omega arith

moved_standing : (s : Standing) (d : Doing) → (moved_by s d).standing ≡ cond (is_stand d) 1 0 + s.standing
unfolding moved_by is_stand
moved_standing s (works u) = omega arith
moved_standing s drives = omega arith
moved_standing s stands = omega arith

-- ---- the counts

module _ (day : List Stint) where
  -- a number that a minute moves by 1 just if a test of what is done passes counts the minutes that pass it
  count_is : (f : Standing → ℕ) (p : Doing → Bool) → f fresh_of ≡ 0 → ((s : Standing) (d : Doing) → f (moved_by s d) ≡ cond (p d) 1 0 + f s) → (k : ℕ) → f (standing_after day k) ≡ how_many (λ m. p (doing_at day m)) k
  unfolding standing_after
  count_is f p none moved zero = none
  count_is f p none moved (suc k) = moved (standing_after day k) (doing_at day k) ∙ ap (λ (n : ℕ). cond (p (doing_at day k)) 1 0 + n) (count_is f p none moved k)

  -- the three counts make all minutes played
  pub counts_make : (k : ℕ) → total_of (standing_after day k) ≡ k
  unfolding standing_after
  counts_make zero = refl
  counts_make (suc k) = omega (arith, moved_total (standing_after day k) (doing_at day k), counts_make k)

  turn_count_cause : (m : ℕ) → (standing_after day (suc m)).turn ≡ in_hand (doing_at day m)
  unfolding standing_after
  turn_count_cause m = moved_turn (standing_after day m) (doing_at day m)

  -- after every minute the standing is what the day says
  pub standing_is : (m : ℕ) → StandingIs day m (standing_after day (suc m))
  standing_is m = record { working_is = count_is (λ s. s.working) is_work refl moved_working (suc m); driving_is = count_is (λ s. s.driving) is_drive refl moved_driving (suc m); standing_is = count_is (λ s. s.standing) is_stand refl moved_standing (suc m); turn_is = turn_count_cause m; minutes = counts_make (suc m) }

pub driving_driven : (day : List Stint) (m : ℕ) → (standing_after day m).driving ≡ driven day m
unfolding driven
driving_driven day m = count_is day (λ s. s.driving) is_drive refl moved_driving m
