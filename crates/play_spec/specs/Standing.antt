-- A groomer's standing: how many minutes it has worked, driven over and stood, and the turn in hand (request R-13). Assumes nothing.
use Rattle.std.specs.Prelude.{◌≡◌, List, ℕ, zero, suc, ◌+◌, ◌-◌}
use Rattle.turn.specs.Turn.{shift_minutes}
use Rattle.lists.specs.Order.{how_many}
use Rattle.play_spec.specs.declared.Stint.{Stint}
use Rattle.play_spec.specs.Day.{Doing, works, drives, stands, doing_at, is_work, is_drive, is_stand}
use Rattle.play_spec.specs.declared.Standing.{Standing}

-- the number for no turn
abbrev pub no_turn_number : ℕ
no_turn_number = 65535

-- the shift's last minute
abbrev pub last_minute : ℕ
last_minute = shift_minutes - 1

-- before the first minute
abbrev pub fresh_of : Standing
fresh_of = record { working = 0; driving = 0; standing = 0; turn = no_turn_number }

-- all minutes of a standing
abbrev pub total_of : Standing → ℕ
total_of s = s.working + s.driving + s.standing

-- a minute later: one of the three counts is moved by 1, and a turn is in hand only where it is worked
unfoldable pub moved_by : Standing → Doing → Standing
moved_by s (works u) = record { working = s.working + 1; driving = s.driving; standing = s.standing; turn = u }
moved_by s drives = record { working = s.working; driving = s.driving + 1; standing = s.standing; turn = no_turn_number }
moved_by s stands = record { working = s.working; driving = s.driving; standing = s.standing + 1; turn = no_turn_number }

-- after the first k minutes of a day
unfoldable pub standing_after : List Stint → ℕ → Standing
standing_after day zero = fresh_of
standing_after day (suc m) = moved_by (standing_after day m) (doing_at day m)

-- ---- as statements

-- the turn in hand in a minute
unfoldable pub in_hand : Doing → ℕ
in_hand (works u) = u
in_hand drives = no_turn_number
in_hand stands = no_turn_number

-- after minute m of a day: each count is how many minutes up to then were such, and the turn is the one worked in minute m
pub record StandingIs (day : List Stint) (m : ℕ) (s : Standing) : Type 0 where
  pub working_is : s.working ≡ how_many (λ k. is_work (doing_at day k)) (suc m)
  pub driving_is : s.driving ≡ how_many (λ k. is_drive (doing_at day k)) (suc m)
  pub standing_is : s.standing ≡ how_many (λ k. is_stand (doing_at day k)) (suc m)
  pub turn_is : s.turn ≡ in_hand (doing_at day m)
  pub minutes : s.working + s.driving + s.standing ≡ suc m
