-- The days of all groomers as one table of numbers: for each groomer rows of three places, a stint each, cut off at the shift's end (request R-13). Assumes nothing.
use Rattle.std.specs.Prelude.{◌≡◌, Bool, cond, List, [], ◌∷◌, ℕ, zero, suc, ◌+◌, ◌*◌, ◌/◌, ◌≤◌, ◌<◌, ltb, length, get_or}
use Rattle.turn.specs.Turn.{shift_minutes}
use Rattle.sheet.specs.Kind.{most_groomers}
use Rattle.model.specs.Turns.{Turns}
use Rattle.play_spec.specs.declared.Stint.{Stint}
use Rattle.play_spec.specs.Day.{over_minutes, most_delay, delay_in, day_of, Doing, works, drives, stands}

-- the most stints that can be over in a shift: driving over follows each
abbrev pub day_rows : ℕ
day_rows = shift_minutes / over_minutes

-- a row's places: the three numbers of a stint
abbrev pub row_size : ℕ
row_size = 3

abbrev pub day_places : ℕ
day_places = day_rows * row_size

abbrev pub day_table_places : ℕ
day_table_places = most_groomers * day_places

-- a minute, or the shift's end where that is earlier
unfoldable pub cut : ℕ → ℕ
cut x = cond (ltb x shift_minutes) x shift_minutes

-- where row j of groomer g's day starts, groomers from 0
abbrev pub stint_place : ℕ → ℕ → ℕ
stint_place g j = g * day_places + j * row_size

-- the stint in that row
unfoldable pub stint_in : List ℕ → ℕ → ℕ → Stint
stint_in table g j =
    record {
      turn = get_or table (stint_place g j) 0;
      begin = get_or table (stint_place g j + 1) 0;
      end = get_or table (stint_place g j + 2) 0;
    }

-- a row without a stint: it begins when the shift is over
unfoldable pub no_stint : Stint
no_stint = record { turn = shift_minutes; begin = shift_minutes; end = shift_minutes }

-- a stint cut off at the shift's end
unfoldable pub cut_stint : Stint → Stint
cut_stint s = record { turn = s.turn; begin = cut s.begin; end = cut s.end }

-- the row for stint j of a day
unfoldable pub stint_row : List Stint → ℕ → Stint
stint_row [] j = no_stint
stint_row (s ∷ ss) zero = cut_stint s
stint_row (s ∷ ss) (suc j) = stint_row ss j

-- what a row says of a minute
unfoldable pub doing_by : Stint → ℕ → Doing
doing_by s m = cond (ltb m s.begin) stands (cond (ltb m s.end) (works s.turn) drives)

-- there is a delay for each of the first n turns, none above the limit
abbrev pub DelaysFit : List ℕ → ℕ → Type 0
DelaysFit delays n = (n ≤ length delays) × ((u : ℕ) → u < n → delay_in delays u ≤ most_delay)

-- the table holds the days
pub record Days (T : Turns) (S : List Bool) (delay : ℕ → ℕ) (table : List ℕ) : Type 0 where
  pub places : length table ≡ day_table_places
  pub rows : (g j : ℕ) → g < most_groomers → j < day_rows → stint_in table g j ≡ stint_row (day_of T S delay (suc g)) j
