-- When a kept form is accepted, and where each cause to refuse one stands, as statements (request R-12). Assumes nothing.
use Rattle.std.specs.Prelude.{ℕ, ◌+◌, ◌*◌, ◌<◌, ◌≡◌, Bool, true, false, List, [], ◌∷◌, ◌++◌, length, get_or}
use Rattle.refusal.specs.Number.{truncated, bad_map, bad_slope, bad_groomer, bad_time, bad_worth, bad_driver, trailing_bytes}
use Rattle.refusal.specs.Cause.{FirstAmong}
use Rattle.wire.specs.Mark.{kept_mark}
use Rattle.turn.specs.declared.Turn.{Turn}
use Rattle.turn.specs.declared.Counts.{Counts}
use Rattle.turn.specs.Turn.{InRange, most_worth, most_driver}
use Rattle.sheet.specs.Kind.{shift_sheet}
use Rattle.sheet.specs.Record.{first_cursor}
use Rattle.sheet.specs.Read.{counts_in}
use Rattle.sheet.specs.Layout.{header_for}
use Rattle.sheet.specs.Accepted.{GoodMap, Carried, Legal, CauseFor, WrongMap, WrongTime, Outside, LentCause}
use Rattle.archive_spec.specs.Column.{columns_in, turn_across}
use Rattle.archive_spec.specs.Kept.{columns_body, archive, kept_maps, columns_at, kept_end}
use Rattle.refusal.specs.Words.{ThenRoom}

-- ---- accepted

-- maps and turns that go together after a turn, record by record: a good map, what it leaves out carried over, values in range
pub data Together (limits : Counts) : Bool → Turn → List ℕ → List Turn → Type 0 where
  none : {first : Bool} {p : Turn} → Together limits first p [] []
  more : {first : Bool} {p t : Turn} {m : ℕ} {ms : List ℕ} {ts : List Turn}
      → GoodMap shift_sheet.maps first m → Carried m p t → InRange limits t → Together limits false t ms ts
      → Together limits first p (m ∷ ms) (t ∷ ts)

-- these bytes are a kept form with these counts, maps and turns: the mark, a legal header, the maps and the columns, and nothing after them
pub record KeptFor (k : List ℕ) (counts : Counts) (ms : List ℕ) (ts : List Turn) : Type 0 where
  pub legal : Legal shift_sheet counts (length ts)
  pub together : Together counts true first_cursor.prev ms ts
  pub bytes : k ≡ header_for kept_mark counts (length ts) ++ columns_body ms ts

-- the bytes are made as a kept form is made, from some counts, maps and turns
pub record AcceptedKept (k : List ℕ) : Type 0 where
  pub counts : Counts
  pub maps : List ℕ
  pub turns : List Turn
  pub kept : KeptFor k counts maps turns

-- ---- the causes at their places

-- map i of a kept form
abbrev pub kept_map : List ℕ → ℕ → ℕ
kept_map k i = get_or (kept_maps k) i 0

-- turn i: of each column value i
abbrev pub kept_turn : List ℕ → ℕ → Turn
kept_turn k i = turn_across (columns_in (kept_maps k) k (columns_at k)) i

-- how many maps it has: as many as turns, unless it ends too early
abbrev pub map_count : List ℕ → ℕ
map_count k = length (kept_maps k)

-- places 0 to 4: the header; 5: the number of maps; then a place a map; two for the columns' end; then five places a turn
abbrev pub value_place : List ℕ → ℕ → ℕ → ℕ
value_place k i j = 8 + map_count k + (5 * i + j)

-- a cause to refuse k as a kept form is there: its number, and its place in the order; the header's are a sheet's, but for the mark
pub data KeptCause (k : List ℕ) : ℕ → ℕ → Type 0 where
  of_header : {j r : ℕ} → r < 5 → CauseFor archive k j r → KeptCause k j r
  few_maps : length k < columns_at k → KeptCause k truncated 5
  wrong_map : (i : ℕ) → i < map_count k → WrongMap shift_sheet.maps i (kept_map k i) → KeptCause k bad_map (6 + i)
  too_short : length k < kept_end k → KeptCause k truncated (6 + map_count k)
  too_long : kept_end k < length k → KeptCause k trailing_bytes (7 + map_count k)
  slope : (i : ℕ) → i < map_count k → Outside (kept_turn k i).slope (counts_in k).slopes → KeptCause k bad_slope (value_place k i 0)
  groomer : (i : ℕ) → i < map_count k → Outside (kept_turn k i).groomer (counts_in k).groomers → KeptCause k bad_groomer (value_place k i 1)
  time : (i : ℕ) → i < map_count k → WrongTime (kept_turn k i) → KeptCause k bad_time (value_place k i 2)
  worth : (i : ℕ) → i < map_count k → Outside (kept_turn k i).worth most_worth → KeptCause k bad_worth (value_place k i 3)
  driver : (i : ℕ) → i < map_count k → most_driver < (kept_turn k i).driver → KeptCause k bad_driver (value_place k i 4)

-- a cause to refuse restoring into so many bytes: one of the kept form's, and after them all that the bytes are fewer than the form's
abbrev pub RestoreCause : List ℕ → ℕ → ℕ → ℕ → Type 0
RestoreCause k = ThenRoom (KeptCause k) (value_place k (map_count k) 0) (length k)

-- the first cause to refuse keeping a sheet in so many bytes has number j
abbrev pub FirstKeepCause : List ℕ → ℕ → ℕ → Type 0
FirstKeepCause s places j = FirstAmong (LentCause s (length s) places) j

-- the first cause to refuse restoring has number j
abbrev pub FirstRestoreCause : List ℕ → ℕ → ℕ → Type 0
FirstRestoreCause k places j = FirstAmong (RestoreCause k places) j
