-- The list of standings as it is moved, minute by minute and groomer by groomer, by a table that holds the days. The promises use `minute_of`, which is made of `begun_of` and `step_of`, and `minutes_from`; the rest is for inner functions only (request R-13). Assumes nothing.
use Rattle.std.specs.Prelude.{◌≡◌, ℕ, zero, suc, ◌+◌, ◌<◌, ◌/◌, cond, List, eqb, length, set, get_or}
use Rattle.turn.specs.Turn.{shift_minutes}
use Rattle.sheet.specs.Kind.{most_groomers}
use Rattle.play_spec.specs.Day.{over_minutes}
use Rattle.play_spec.specs.DayTable.{day_table_places, stint_in, doing_by}
use Rattle.play_spec.specs.declared.Standing.{Standing}
use Rattle.play_spec.specs.Standing.{fresh_of, moved_by, total_of}

-- what minute m starts from. What the caller left in the list does not count: the first minute starts anew
unfoldable pub begun_of : Standing → ℕ → Standing
begun_of s m = cond (eqb m 0) fresh_of s

-- minute m of the groomer at place g: the minutes driven over tell how many stints are over
unfoldable pub step_of : Standing → List ℕ → ℕ → ℕ → Standing
step_of s table g m = let b = begun_of s m in moved_by b (doing_by (stint_in table g (b.driving / over_minutes)) m)

-- minute m of k groomers from place g on
unfoldable pub minute_of : ℕ → ℕ → List Standing → List ℕ → ℕ → List Standing
minute_of zero g l table m = l
minute_of (suc k) g l table m = minute_of k (g + 1) (set l g (step_of (get_or l g fresh_of) table g m)) table m

-- k minutes from m on, of n groomers
unfoldable pub minutes_from : ℕ → ℕ → ℕ → List Standing → List ℕ → List Standing
minutes_from zero m n l table = l
minutes_from (suc k) m n l table = minutes_from k (m + 1) n (minute_of n 0 l table m) table

-- ---- as statements

-- what minute m of a groomer asks: a table and a groomer of it, a minute of the shift, and a standing of m minutes to start from
abbrev pub MinuteReady : List ℕ → ℕ → ℕ → Standing → Type 0
MinuteReady table g m s = (length table ≡ day_table_places) × (g < most_groomers) × (m < shift_minutes) × (total_of (begun_of s m) ≡ m)

abbrev pub AllReady : List ℕ → ℕ → ℕ → List Standing → Type 0
AllReady table m n l = (g : ℕ) → g < n → MinuteReady table g m (get_or l g fresh_of)
