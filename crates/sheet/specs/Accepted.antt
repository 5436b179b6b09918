-- When a sheet is accepted, and where each cause to refuse one stands, as statements (document 01: the sheet, refusals 1 to 11; request R-5). Assumes nothing.
use Rattle.std.specs.Prelude.{ℕ, zero, suc, ◌+◌, ◌*◌, ◌/◌, ◌%◌, ◌<◌, ◌≤◌, ◌≡◌, ◌≢◌, ◌⊎◌, List, [], ◌∷◌, ◌++◌, Bool, true, false, length, take}
use Rattle.refusal.specs.Number.{truncated, bad_magic, bad_map, bad_time, bad_worth, bad_driver, trailing_bytes}
use Rattle.refusal.specs.Cause.{FirstAmong}
use Rattle.turn.specs.declared.Turn.{Turn}
use Rattle.turn.specs.declared.Counts.{Counts}
use Rattle.turn.specs.Turn.{row_numbers, InRange, shift_minutes, most_worth, most_driver}
use Rattle.sheet.specs.declared.kind.Maps.{Maps}
use Rattle.sheet.specs.declared.record.Cursor.{Cursor}
use Rattle.sheet.specs.Kind.{Kind, shift_sheet}
use Rattle.sheet.specs.Record.{width_of, map_at, turn_at, cursor_after, first_cursor}
use Rattle.sheet.specs.Read.{header_bytes, counts_in, turn_count}
use Rattle.sheet.specs.Layout.{record_of, header_for}
use Rattle.refusal.specs.Words.{ThenRoom, Only, Then}

-- ---- accepted

-- a map that a record may have: at most the full map, and a first one the full map or the least that it may be
pub record GoodMap (maps : Maps) (first : Bool) (m : ℕ) : Type 0 where
  pub below : m ≤ maps.full
  pub full : first ≡ true → (m ≡ maps.first) ⊎ (m ≡ maps.full)

-- a field that the map leaves out is as in the turn before
pub record Carried (m : ℕ) (p t : Turn) : Type 0 where
  pub slope : m % 2 ≡ 0 → p.slope ≡ t.slope
  pub groomer : m / 2 % 2 ≡ 0 → p.groomer ≡ t.groomer
  pub start : m / 4 % 2 ≡ 0 → p.start ≡ t.start
  pub length : m / 8 % 2 ≡ 0 → p.length ≡ t.length
  pub worth : m / 16 % 2 ≡ 0 → p.worth ≡ t.worth
  pub driver : m / 32 % 2 ≡ 0 → p.driver ≡ t.driver

-- bytes that are records of these turns, one after another: a good map, exactly its fields, values in range, and nothing after the last
pub data Records (K : Kind) (limits : Counts) : Bool → Turn → List ℕ → List Turn → Type 0 where
  none : {first : Bool} {p : Turn} → Records K limits first p [] []
  more : {first : Bool} {p t : Turn} {m : ℕ} {bytes : List ℕ} {ts : List Turn}
      → GoodMap K.maps first m → Carried m p t → InRange limits t → Records K limits false t bytes ts
      → Records K limits first p (record_of m t ++ bytes) (t ∷ ts)

-- counts and a number of turns that a header of this kind may name
pub record Legal (K : Kind) (counts : Counts) (turns : ℕ) : Type 0 where
  pub groomers_from_lem : 1 ≤ counts.groomers
  pub groomers_to : counts.groomers ≤ K.most.groomers
  pub slopes_from : 1 ≤ counts.slopes
  pub slopes_to : counts.slopes ≤ K.most.slopes
  pub turns_to : turns ≤ K.most.turns

-- these bytes are a sheet of this kind, with these counts and turns: the mark, a legal header, and the records
pub record SheetFor (K : Kind) (s : List ℕ) (counts : Counts) (ts : List Turn) : Type 0 where
  pub legal : Legal K counts (length ts)
  pub body : List ℕ
  pub bytes : s ≡ header_for K.mark counts (length ts) ++ body
  pub records : Records K counts true first_cursor.prev body ts

-- the bytes are made as a sheet of this kind is made, from some counts and turns
pub record AcceptedFor (K : Kind) (s : List ℕ) : Type 0 where
  pub counts : Counts
  pub turns : List Turn
  pub sheet : SheetFor K s counts turns

-- a shift's sheet
abbrev pub Accepted : List ℕ → Type 0
Accepted = AcceptedFor shift_sheet

-- ---- the causes at their places

-- where record i starts, and the turn before it
unfoldable pub cursor_of : List ℕ → ℕ → Cursor
cursor_of s zero = first_cursor
cursor_of s (suc i) = cursor_after s (cursor_of s i)

-- x is 0 or above top
abbrev pub Outside : ℕ → ℕ → Type 0
Outside x top = (x ≡ 0) ⊎ (top < x)

-- a turn has no length, or ends after the shift
abbrev pub WrongTime : Turn → Type 0
WrongTime t = (t.length ≡ 0) ⊎ (shift_minutes < t.start + t.length)

-- the map of record i
abbrev pub record_map : List ℕ → ℕ → ℕ
record_map s i = map_at s (cursor_of s i)

-- the turn that record i resolves to
abbrev pub turn_of : List ℕ → ℕ → Turn
turn_of s i = turn_at s (cursor_of s i)

-- place 0 to 4: the header; then eight places a record; then the end
abbrev pub place_of : ℕ → ℕ → ℕ
place_of i k = 5 + (8 * i + k)

-- record i has a map that it may not have
abbrev pub WrongMap : Maps → ℕ → ℕ → Type 0
WrongMap maps i m = (maps.full < m) ⊎ ((i ≡ 0) × (m ≢ maps.first) × (m ≢ maps.full))

-- a cause to refuse s as a sheet of this kind is there: its number, and its place in the order
pub data CauseFor (K : Kind) (s : List ℕ) : ℕ → ℕ → Type 0 where
  short_header : length s < header_bytes → CauseFor K s truncated 0
  other_mark : take 3 s ≢ K.mark → CauseFor K s bad_magic 1
  groomer_count : Outside (counts_in s).groomers K.most.groomers → CauseFor K s K.refusals.counts 2
  slope_count : Outside (counts_in s).slopes K.most.slopes → CauseFor K s K.refusals.counts 3
  turn_count_cause : K.most.turns < turn_count s → CauseFor K s K.refusals.turns 4
  no_map : (i : ℕ) → i < turn_count s → length s ≤ (cursor_of s i).at → CauseFor K s truncated (place_of i 0)
  wrong_map : (i : ℕ) → i < turn_count s → WrongMap K.maps i (record_map s i) → CauseFor K s bad_map (place_of i 1)
  short_fields : (i : ℕ) → i < turn_count s → length s < (cursor_of s i).at + 1 + width_of (record_map s i) → CauseFor K s truncated (place_of i 2)
  slope : (i : ℕ) → i < turn_count s → Outside (turn_of s i).slope (counts_in s).slopes → CauseFor K s K.refusals.slope (place_of i 3)
  groomer : (i : ℕ) → i < turn_count s → Outside (turn_of s i).groomer (counts_in s).groomers → CauseFor K s K.refusals.groomer (place_of i 4)
  time : (i : ℕ) → i < turn_count s → WrongTime (turn_of s i) → CauseFor K s bad_time (place_of i 5)
  worth : (i : ℕ) → i < turn_count s → Outside (turn_of s i).worth most_worth → CauseFor K s bad_worth (place_of i 6)
  driver : (i : ℕ) → i < turn_count s → most_driver < (turn_of s i).driver → CauseFor K s bad_driver (place_of i 7)
  bytes_behind : (cursor_of s (turn_count s)).at < length s → CauseFor K s trailing_bytes (place_of (turn_count s) 0)

-- one of the sheet's, and after them all one more
abbrev pub MoreCauseFor : Kind → List ℕ → ℕ → Type 0 → ℕ → ℕ → Type 0
MoreCauseFor K s n P = Then (CauseFor K s) (place_of (turn_count s) 1) (Only n P)

-- a cause to refuse s with a lent buffer of so many places: one of the sheet's, and after them all that the buffer is shorter than the need
abbrev pub LentCauseFor : Kind → List ℕ → ℕ → ℕ → ℕ → ℕ → Type 0
LentCauseFor K s = ThenRoom (CauseFor K s) (place_of (turn_count s) 1)

-- the reader needs a row of places a turn
abbrev pub ReadCauseFor : Kind → List ℕ → ℕ → ℕ → ℕ → Type 0
ReadCauseFor K s places = LentCauseFor K s (row_numbers * turn_count s) places

-- ---- a shift's sheet

-- its causes
abbrev pub SheetCause : List ℕ → ℕ → ℕ → Type 0
SheetCause = CauseFor shift_sheet

-- with one more
abbrev pub MoreCause : List ℕ → ℕ → Type 0 → ℕ → ℕ → Type 0
MoreCause = MoreCauseFor shift_sheet

-- with those of a lent buffer
abbrev pub LentCause : List ℕ → ℕ → ℕ → ℕ → ℕ → Type 0
LentCause = LentCauseFor shift_sheet

-- with those of the reader's table
abbrev pub ReadCause : List ℕ → ℕ → ℕ → ℕ → Type 0
ReadCause = ReadCauseFor shift_sheet

-- the first cause to refuse a sheet has number k
abbrev pub FirstCause : List ℕ → ℕ → Type 0
FirstCause s k = FirstAmong (SheetCause s) k

-- the first cause for the reader has number k
abbrev pub FirstReadCause : List ℕ → ℕ → ℕ → Type 0
FirstReadCause s places k = FirstAmong (ReadCause s places) k
