-- How the table of days is filled, turn by turn in order of start. For inner functions only (request R-13). Assumes nothing.
use Rattle.std.specs.Prelude.{◌≡◌, Bool, cond, List, [], ◌∷◌, ℕ, suc, ◌+◌, ◌-◌, ◌≤◌, ◌<◌, max, length, get_or, set, take, replicate}
use Rattle.turn.specs.Turn.{shift_minutes}
use Rattle.sheet.specs.Kind.{most_groomers}
use Rattle.model.specs.Turns.{Turns}
use Rattle.instance.specs.declared.ways.Row.{Row}
use Rattle.instance_spec.specs.ByStart.{order_by_start}
use Rattle.play_spec.specs.declared.Stint.{Stint}
use Rattle.play_spec.specs.Day.{over_minutes, stint_of, stints_from, taken_of}
use Rattle.play_spec.specs.DayTable.{day_rows, day_table_places, cut, stint_place, stint_in, stint_row}

-- a table without stints
unfoldable pub blank_table : List ℕ
blank_table = replicate day_table_places shift_minutes

-- how far the groomers are while the table is filled: from when on each is free, groomers from 0, then how many stints each has
abbrev pub count_place : ℕ → ℕ
count_place g = most_groomers + g

abbrev pub progress_places : ℕ
progress_places = most_groomers + most_groomers

-- the table with a stint in that row
unfoldable pub with_stint : List ℕ → ℕ → ℕ → Stint → List ℕ
with_stint table g j s = set (set (set table (stint_place g j) s.turn) (stint_place g j + 1) s.begin) (stint_place g j + 2) s.end

-- from when on the groomer is free after some turns
unfoldable pub free_after : Turns → (ℕ → ℕ) → ℕ → List ℕ → ℕ
free_after T delay free [] = free
free_after T delay free (u ∷ us) = free_after T delay ((stint_of T delay free u).end + over_minutes) us

-- a turn of a row as a stint, from the minute on which its groomer is free, cut off
unfoldable pub stint_by : Row → ℕ → ℕ → ℕ → Stint
stint_by r t delay free =
    let begin = max r.start free in
    record { turn = t; begin = begin; end = cut (begin + (r.end - r.start) + delay) }

-- the table with a stint after groomer g's last one
abbrev pub with_next : List ℕ → List ℕ → ℕ → Stint → List ℕ
with_next table progress g s = with_stint table g (get_or progress (count_place g) 0) s

-- how far the groomer is then: free once it has driven over, with a stint more
unfoldable pub after_next : List ℕ → ℕ → Stint → List ℕ
after_next progress g s = set (set progress g (cut (s.end + over_minutes))) (count_place g) (get_or progress (count_place g) 0 + 1)

-- a turn more, if it is chosen: the table, and how far the groomers are
unfoldable pub table_with : Bool → Row → ℕ → ℕ → List ℕ → List ℕ → List ℕ
table_with chosen r u delay table progress =
    let g = r.groomer - 1 in
    cond chosen (with_next table progress g (stint_by r u delay (get_or progress g 0))) table

unfoldable pub progress_with : Bool → Row → ℕ → ℕ → List ℕ → List ℕ
progress_with chosen r u delay progress =
    let g = r.groomer - 1 in
    cond chosen (after_next progress g (stint_by r u delay (get_or progress g 0))) progress

-- ---- as statements

-- the table has a row for each stint of the days over some turns, taken in their order, groomer by groomer
pub record RowsPut (T : Turns) (S : List Bool) (delay : ℕ → ℕ) (us table progress : List ℕ) : Type 0 where
  pub places : length table ≡ day_table_places
  pub progress_size : length progress ≡ progress_places
  pub rows : (g j : ℕ) → g < most_groomers → j < day_rows → stint_in table g j ≡ stint_row (stints_from T delay 0 (taken_of T S (suc g) us)) j
  pub free : (g : ℕ) → g < most_groomers → get_or progress g 0 ≡ cut (free_after T delay 0 (taken_of T S (suc g) us))
  pub many : (g : ℕ) → g < most_groomers → get_or progress (count_place g) 0 ≡ length (taken_of T S (suc g) us)

-- every turn has a groomer that a sheet can have
pub record GroomersKnown (T : Turns) : Type 0 where
  pub each : (t : ℕ) → t < T.count → (1 ≤ T.groomer t) × (T.groomer t ≤ most_groomers)

-- what a board that passes gives for its days
pub record Playable (T : Turns) (S : List Bool) : Type 0 where
  pub known : GroomersKnown T
  -- however many turns are gone through by start, those that a groomer takes fit into the rows of its day
  pub rows : (g i : ℕ) → length (taken_of T S (suc g) (take i (order_by_start T))) < day_rows

-- room for a turn more: free minutes within the shift, and a row after each groomer's last one
pub record RoomForTurn (progress : List ℕ) : Type 0 where
  pub progress_size : length progress ≡ progress_places
  pub free : (g : ℕ) → g < most_groomers → get_or progress g 0 ≤ shift_minutes
  pub few : (g : ℕ) → g < most_groomers → get_or progress (count_place g) 0 < day_rows
