-- The bytes of a sheet's header and of a record: what a writer puts and an accepted sheet is made of (document 01: the sheet; request R-5). Assumes nothing.
use Rattle.std.specs.Prelude.{ℕ, ◌/◌, ◌%◌, List, [], ◌∷◌, ◌++◌, cond, eqb}
use Rattle.wire.specs.Number.{bytes_of}
use Rattle.turn.specs.declared.Turn.{Turn}
use Rattle.turn.specs.declared.Counts.{Counts}

-- a field's bytes, high byte first, where its bit stands, else none
abbrev pub field_bytes : ℕ → ℕ → ℕ → List ℕ
field_bytes bit width v = cond (eqb bit 0) [] (bytes_of width v)

-- the bytes of the fields that a map names, from slope to driver
abbrev pub fields_of : ℕ → Turn → List ℕ
fields_of m t =
    field_bytes (m % 2) 1 t.slope
    ++ (field_bytes (m / 2 % 2) 1 t.groomer
    ++ (field_bytes (m / 4 % 2) 2 t.start
    ++ (field_bytes (m / 8 % 2) 2 t.length
    ++ (field_bytes (m / 16 % 2) 2 t.worth
    ++ field_bytes (m / 32 % 2) 1 t.driver))))

-- a record: its map, then its fields
unfoldable pub record_of : ℕ → Turn → List ℕ
record_of m t = m ∷ fields_of m t

-- a mark, groomers, slopes, and the number of turns in two bytes
abbrev pub header_for : List ℕ → Counts → ℕ → List ℕ
header_for mark counts n = mark ++ (counts.groomers ∷ counts.slopes ∷ bytes_of 2 n)
