-- One record of a sheet, read after the turn before it (document 01: the sheet; request R-5). Assumes nothing.
use Rattle.std.specs.Prelude.{ℕ, ◌+◌, ◌*◌, ◌/◌, ◌%◌, List, ◌∷◌, Bool, true, false, not, ◌&&◌, cond, length, get_or, ltb, leb, eqb}
use Rattle.refusal.specs.Number.{truncated, bad_map}
use Rattle.refusal.specs.Cause.{Cause, ◌when◌}
use Rattle.wire.specs.Number.{value_at}
use Rattle.turn.specs.declared.Turn.{Turn}
use Rattle.turn.specs.declared.Counts.{Counts}
use Rattle.turn.specs.Turn.{turn_causes}
use Rattle.sheet.specs.declared.kind.Maps.{Maps}
use Rattle.sheet.specs.Kind.{Kind}
use Rattle.sheet.specs.declared.record.Cursor.{Cursor}

-- the bytes of the fields that a map names: slope 1, groomer 1, start 2, length 2, worth 2, driver 1
unfoldable pub width_of : ℕ → ℕ
width_of m = m % 2 + m / 2 % 2 + 2 * (m / 4 % 2) + 2 * (m / 8 % 2) + 2 * (m / 16 % 2) + m / 32 % 2

-- the most bytes of a record: its map and every field
abbrev pub record_bytes : ℕ
record_bytes = 10

-- a field of so many bytes where its bit stands, else the value of the turn before
unfoldable pub field : ℕ → List ℕ → ℕ → ℕ → ℕ → ℕ
field width s at bit old = cond (eqb bit 0) old (value_at s at width)

-- the turn of a record with map m, its fields starting at a place, after the turn old
unfoldable pub turn_from : List ℕ → ℕ → ℕ → Turn → Turn
turn_from s at m old =
    record {
      slope = field 1 s at (m % 2) old.slope;
      groomer = field 1 s (at + m % 2) (m / 2 % 2) old.groomer;
      start = field 2 s (at + m % 2 + m / 2 % 2) (m / 4 % 2) old.start;
      length = field 2 s (at + m % 2 + m / 2 % 2 + 2 * (m / 4 % 2)) (m / 8 % 2) old.length;
      worth = field 2 s (at + m % 2 + m / 2 % 2 + 2 * (m / 4 % 2) + 2 * (m / 8 % 2)) (m / 16 % 2) old.worth;
      driver = field 1 s (at + m % 2 + m / 2 % 2 + 2 * (m / 4 % 2) + 2 * (m / 8 % 2) + 2 * (m / 16 % 2)) (m / 32 % 2) old.driver;
    }

-- a map that a record may not have: one above the full map; in the first record also any but the least that it may have there and the full map
unfoldable pub bad_map_for : Maps → Bool → ℕ → Bool
bad_map_for maps first m = cond (ltb maps.full m) true (cond first (not (eqb m maps.first) && not (eqb m maps.full)) false)

-- the map of the record at a cursor
abbrev pub map_at : List ℕ → Cursor → ℕ
map_at s c = get_or s c.at 0

-- where the record at a cursor ends
unfoldable pub end_at : List ℕ → Cursor → ℕ
end_at s c = c.at + 1 + width_of (map_at s c)

-- the turn that it resolves to
unfoldable pub turn_at : List ℕ → Cursor → Turn
turn_at s c = turn_from s (c.at + 1) (map_at s c) c.prev

-- the cursor after it
unfoldable pub cursor_after : List ℕ → Cursor → Cursor
cursor_after s c = record { at = end_at s c; first = false; prev = turn_at s c }

-- what may be wrong with the record at a cursor, in the order of refusal: no map, a bad map, fields cut short, then the values
unfoldable pub record_causes : Kind → List ℕ → Counts → Cursor → List Cause
record_causes K s limits c =
    truncated when leb (length s) c.at
    ∷ bad_map when bad_map_for K.maps c.first (map_at s c)
    ∷ truncated when ltb (length s) (end_at s c)
    ∷ turn_causes K.refusals limits (turn_at s c)

-- before the first record: the seven bytes of the header are read, and there is no turn to carry
unfoldable pub first_cursor : Cursor
first_cursor = record { at = 7; first = true; prev = record { slope = 0; groomer = 0; start = 0; length = 0; worth = 0; driver = 0 } }
