-- What an answer of the charging hall that refuses nothing promises (request R-14). Assumes nothing.
use Rattle.std.specs.Prelude.{◌≡◌, ◌⊎◌, Bool, true, List, ℕ, ◌+◌, ◌*◌, ◌≤◌, ◌<◌, length, take, drop}
use Rattle.model.specs.Choice.{has}
use Rattle.sheet.specs.Read.{turn_count}
use Rattle.choice_map.specs.Choice.{map_bytes, map_of, choice_in}
use Rattle.charge_spec.specs.Hall.{is_wide, is_small, Allowed, AllowedChoice, FullAmong}
use Rattle.charge_spec.specs.Plan.{small_steps, wide_choice, small_choice, worth_in}
use Rattle.charge_spec.specs.Promises.{worth_of_windows}
use Rattle.charge_spec.specs.Charge.{hall_of, charge_of}

-- the first of the lent bytes then, which have a bit for each window
abbrev pub answered_map : List ℕ → List ℕ → List ℕ
answered_map s lent = take (map_bytes (turn_count s)) (charge_of s lent).lent

-- the windows whose bits are set there
abbrev pub answered_choice : List ℕ → List ℕ → List Bool
answered_choice s lent = choice_in (turn_count s) (answered_map s lent)

-- ---- as statements

-- of an answer that refuses nothing
pub record ChargePromised (s lent : List ℕ) : Type 0 where
  -- its windows are an allowed set
  pub allowed : AllowedChoice (hall_of s) (answered_choice s lent)
  -- of one kind: all wide, or all small
  pub one_kind : ((t : ℕ) → has (answered_choice s lent) t ≡ true → is_wide (hall_of s) t ≡ true) ⊎ ((t : ℕ) → has (answered_choice s lent) t ≡ true → is_small (hall_of s) t ≡ true)
  -- they earn its worth
  pub earns : worth_in (hall_of s) (answered_choice s lent) ≡ (charge_of s lent).answer.worth
  -- the first bytes are their map: no other bit is set there
  pub map : answered_map s lent ≡ map_of (answered_choice s lent)
  -- the bytes after the map stay as they were
  pub behind : drop (map_bytes (turn_count s)) (charge_of s lent).lent ≡ drop (map_bytes (turn_count s)) lent
  -- every allowed set is worth at most five times its worth, and the units for each step of the small windows
  pub bound : (R : List ℕ) → Allowed (hall_of s) R → worth_of_windows (hall_of s) R ≤ 5 * (charge_of s lent).answer.worth + (hall_of s).units * length (small_steps (hall_of s))
  -- neither kind's plan is worth more
  pub covers_wide : worth_in (hall_of s) (wide_choice (hall_of s)) ≤ (charge_of s lent).answer.worth
  pub covers_small : worth_in (hall_of s) (small_choice (hall_of s)) ≤ (charge_of s lent).answer.worth
  -- and it is one of the two: the wide windows' exactly where that one earns more, the small windows' on a tie too
  pub wide_plan : worth_in (hall_of s) (small_choice (hall_of s)) < worth_in (hall_of s) (wide_choice (hall_of s)) → answered_choice s lent ≡ wide_choice (hall_of s)
  pub small_plan : worth_in (hall_of s) (wide_choice (hall_of s)) ≤ worth_in (hall_of s) (small_choice (hall_of s)) → answered_choice s lent ≡ small_choice (hall_of s)
  -- it is full: no further window of that kind could be chosen
  pub wide_full : worth_in (hall_of s) (small_choice (hall_of s)) < worth_in (hall_of s) (wide_choice (hall_of s)) → FullAmong (hall_of s) (is_wide (hall_of s)) (answered_choice s lent)
  pub small_full : worth_in (hall_of s) (wide_choice (hall_of s)) ≤ worth_in (hall_of s) (small_choice (hall_of s)) → FullAmong (hall_of s) (is_small (hall_of s)) (answered_choice s lent)
