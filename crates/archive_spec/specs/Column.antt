-- A field of many records side by side: a column, and all of them (request R-12). Assumes nothing.
use Rattle.std.specs.Prelude.{ℕ, zero, suc, ◌+◌, ◌*◌, ◌/◌, ◌%◌, ◌<◌, ◌≤◌, List, [], ◌∷◌, ◌++◌, length, get_or, set}
use Rattle.turn.specs.declared.Turn.{Turn}
use Rattle.turn.specs.Turn.{row_numbers, row_of, turns_of_table}
use Rattle.sheet.specs.Record.{width_of, field}
use Rattle.sheet.specs.Layout.{field_bytes}
use Rattle.archive_spec.specs.declared.Field.{Field}

-- ---- the fields of a record, in their order: each with its place in a turn's row, its unit, which is what its bit counts for in a map, and its width in bytes

-- the slope: bit 0 of the map, one byte, place 0 of the row
abbrev pub slopes : Field
slopes = record { place = 0; unit = 1; width = 1 }

-- the groomer: bit 1 of the map, one byte, place 1 of the row
abbrev pub groomers : Field
groomers = record { place = 1; unit = 2; width = 1 }

-- the start: bit 2 of the map, two bytes, place 2 of the row
abbrev pub starts : Field
starts = record { place = 2; unit = 4; width = 2 }

-- the length: bit 3 of the map, two bytes, place 3 of the row
abbrev pub lengths : Field
lengths = record { place = 3; unit = 8; width = 2 }

-- the worth: bit 4 of the map, two bytes, place 4 of the row
abbrev pub worths : Field
worths = record { place = 4; unit = 16; width = 2 }

-- the driver: bit 5 of the map, one byte, place 5 of the row
abbrev pub drivers : Field
drivers = record { place = 5; unit = 32; width = 1 }

-- ---- one field of one record with map m

-- its bytes, none where the bit is clear
unfoldable pub field_in : Field → ℕ → ℕ → List ℕ
field_in F m v = field_bytes (m / F.unit % 2) F.width v

-- how many
unfoldable pub size_in : Field → ℕ → ℕ
size_in F m = F.width * (m / F.unit % 2)

-- its value, read at a place where the bit stands, else the value before
unfoldable pub field_value : Field → List ℕ → ℕ → ℕ → ℕ → ℕ
field_value F s at m old = field F.width s at (m / F.unit % 2) old

-- ---- a column: one field of the records with these maps

-- the field's values in some turns
unfoldable pub values_of : Field → List Turn → List ℕ
values_of F [] = []
values_of F (t ∷ ts) = get_or (row_of t) F.place 0 ∷ values_of F ts

-- the bytes of those values whose bit stands
unfoldable pub column_of : Field → List ℕ → List ℕ → List ℕ
column_of F [] vs = []
column_of F (m ∷ ms) [] = []
column_of F (m ∷ ms) (v ∷ vs) = field_in F m v ++ column_of F ms vs

-- how many bytes they are
unfoldable pub column_size : Field → List ℕ → ℕ
column_size F [] = 0
column_size F (m ∷ ms) = size_in F m + column_size F ms

-- the values that a column from a place on has, one for each map, after a value
unfoldable pub column_read : Field → List ℕ → List ℕ → ℕ → ℕ → List ℕ
column_read F [] s at old = []
column_read F (m ∷ ms) s at old = let v = field_value F s at m old in v ∷ column_read F ms s (at + size_in F m) v

-- ---- all columns

-- how many bytes all columns have
unfoldable pub widths : List ℕ → ℕ
widths [] = 0
widths (m ∷ ms) = width_of m + widths ms

-- one after another, from slopes to drivers
unfoldable pub columns_of : List ℕ → List Turn → List ℕ
columns_of ms ts =
    column_of slopes ms (values_of slopes ts)
    ++ (column_of groomers ms (values_of groomers ts)
    ++ (column_of starts ms (values_of starts ts)
    ++ (column_of lengths ms (values_of lengths ts)
    ++ (column_of worths ms (values_of worths ts)
    ++ column_of drivers ms (values_of drivers ts)))))

-- the values of all columns
pub record Columns : Type 0 where
  pub slope : List ℕ
  pub groomer : List ℕ
  pub start : List ℕ
  pub length : List ℕ
  pub worth : List ℕ
  pub driver : List ℕ

-- read from a place on, each column after the one before; before the first record every value is 0
unfoldable pub columns_in : List ℕ → List ℕ → ℕ → Columns
columns_in ms s at =
    let p1 = at + column_size slopes ms in
    let p2 = p1 + column_size groomers ms in
    let p3 = p2 + column_size starts ms in
    let p4 = p3 + column_size lengths ms in
    let p5 = p4 + column_size worths ms in
    record {
      slope = column_read slopes ms s at 0;
      groomer = column_read groomers ms s p1 0;
      start = column_read starts ms s p2 0;
      length = column_read lengths ms s p3 0;
      worth = column_read worths ms s p4 0;
      driver = column_read drivers ms s p5 0;
    }

-- turn i has the values number i
unfoldable pub turn_across : Columns → ℕ → Turn
turn_across C i =
    record {
      slope = get_or C.slope i 0;
      groomer = get_or C.groomer i 0;
      start = get_or C.start i 0;
      length = get_or C.length i 0;
      worth = get_or C.worth i 0;
      driver = get_or C.driver i 0;
    }

-- the turns i, i + 1, .., n in all
unfoldable pub turns_across : ℕ → Columns → ℕ → List Turn
turns_across zero C i = []
turns_across (suc n) C i = turn_across C i ∷ turns_across n C (i + 1)

-- the turns that all columns from a place on have
abbrev pub column_turns : List ℕ → List ℕ → ℕ → List Turn
column_turns ms s at = turns_across (length ms) (columns_in ms s at) 0

-- the first n turns of a table
abbrev pub first_turns : ℕ → List ℕ → List Turn
first_turns n table = turns_of_table n table 0

-- ---- for the inner functions only

-- a column of a table's turns
abbrev pub table_column : Field → List ℕ → List ℕ → List ℕ
table_column F ms table = column_of F ms (values_of F (first_turns (length ms) table))

-- all columns of them
abbrev pub table_columns : List ℕ → List ℕ → List ℕ
table_columns ms table = columns_of ms (first_turns (length ms) table)

-- a field that a row has, of one byte or two
pub record ColumnsLaid (F : Field) : Type 0 where
  pub within : F.place < row_numbers
  pub unit_from : 1 ≤ F.unit
  pub width_from : 1 ≤ F.width
  pub width_to : F.width ≤ 2

-- a table with values put into it a row apart, from a place on
unfoldable pub spread : List ℕ → ℕ → List ℕ → List ℕ
spread l at [] = l
spread l at (v ∷ vs) = spread (set l at v) (at + row_numbers) vs
