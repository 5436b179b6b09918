-- What the chosen windows use of the supply, in places: one a minute, then one a vehicle. For the inner functions (request R-14). Assumes nothing.
use Rattle.std.specs.Prelude.{ℕ, ◌+◌, ◌-◌, ◌≤◌, ◌<◌, ◌≡◌, ◌≢◌, Bool, ◌&&◌, List, length, get_or, leb, eqb}
use Rattle.lists.specs.Lists.{every}
use Rattle.turn.specs.Turn.{shift_minutes}
use Rattle.instance.specs.declared.ways.Row.{Row}
use Rattle.instance.specs.Columns.{row_in}
use Rattle.charge_spec.specs.Hall.{most_units, most_vehicles, Hall, window_count, vehicle, drawn_at, vehicle_free}

-- the places: the minutes of a shift, then vehicles by their numbers from 0
abbrev pub used_places : ℕ
used_places = shift_minutes + most_vehicles + 1

-- so many minutes are looked at together
abbrev pub part_minutes : ℕ
part_minutes = 32

-- at n minutes from one on no more is used than that
unfoldable pub lasts_for : List ℕ → ℕ → ℕ → ℕ → Bool
lasts_for used from room n = every (λ i. leb (get_or used (from + i) 0) room) n

-- a row's vehicle is not there
unfoldable pub free_row : List ℕ → Row → Bool
free_row used r = eqb (get_or used (shift_minutes + r.slope) 0) 0

-- nor is that of the row of window t
unfoldable pub free_in : List ℕ → List ℕ → ℕ → Bool
free_in cols used t = free_row used (row_in cols t)

-- at each of a row's minutes its draw is left
unfoldable pub lasts_row : ℕ → List ℕ → Row → Bool
lasts_row units used r = every (λ i. leb (get_or used (r.start + i) 0 + r.groomer) units) (r.end - r.start)

-- and its vehicle is not there
unfoldable pub allowed_row : ℕ → List ℕ → Row → Bool
allowed_row units used r = free_row used r && lasts_row units used r

-- ---- as statements

-- a row of a hall with these units
pub record RowInHall (units : ℕ) (r : Row) : Type 0 where
  pub units_to : units ≤ most_units
  pub draw : r.groomer ≤ units
  pub vehicle : r.slope ≤ most_vehicles
  pub starts : r.start < r.end
  pub ends : r.end ≤ shift_minutes

-- at each of its minutes there is room for its draw
unfoldable pub RoomFor : ℕ → List ℕ → Row → Type 0
RoomFor units used r = (m : ℕ) → r.start ≤ m → m < r.end → get_or used m 0 + r.groomer ≤ units

-- so much is drawn from a start on, up to minute k
pub record Drawn (start draw k : ℕ) (before after : List ℕ) : Type 0 where
  pub places : length after ≡ length before
  pub drawing : (m : ℕ) → start ≤ m → m < k → get_or after m 0 ≡ get_or before m 0 + draw
  pub earlier : (m : ℕ) → m < start → get_or after m 0 ≡ get_or before m 0
  pub later : (m : ℕ) → k ≤ m → get_or after m 0 ≡ get_or before m 0

-- the row draws at its minutes, and its vehicle is there
pub record WithWindow (r : Row) (before after : List ℕ) : Type 0 where
  pub places : length after ≡ length before
  pub drawing : (m : ℕ) → r.start ≤ m → m < r.end → get_or after m 0 ≡ get_or before m 0 + r.groomer
  pub earlier : (m : ℕ) → m < r.start → get_or after m 0 ≡ get_or before m 0
  pub later : (m : ℕ) → r.end ≤ m → m < shift_minutes → get_or after m 0 ≡ get_or before m 0
  pub there : get_or after (shift_minutes + r.slope) 0 ≡ 1
  pub others : (v : ℕ) → v ≢ r.slope → get_or after (shift_minutes + v) 0 ≡ get_or before (shift_minutes + v) 0

-- the places say what the chosen windows use
pub record Supplied (H : Hall) (S : List Bool) (used : List ℕ) : Type 0 where
  pub places : length used ≡ used_places
  pub minutes : (m : ℕ) → m < shift_minutes → get_or used m 0 ≡ drawn_at H S m
  pub vehicles : (j : ℕ) → j < window_count H → eqb (get_or used (shift_minutes + vehicle H j) 0) 0 ≡ vehicle_free H S j
