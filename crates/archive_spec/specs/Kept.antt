-- The two forms of a sheet: record by record, and kept by column. Both have the same header after the mark, the same maps and the same turns (request R-12). Assumes nothing.
use Rattle.std.specs.Prelude.{ℕ, zero, suc, ◌+◌, List, [], ◌∷◌, ◌++◌, length, get_or, take, drop}
use Rattle.wire.specs.Number.{bytes_at}
use Rattle.wire.specs.Mark.{sheet_mark, kept_mark}
use Rattle.turn.specs.declared.Turn.{Turn}
use Rattle.sheet.specs.Kind.{Kind, shift_sheet}
use Rattle.sheet.specs.Record.{width_of}
use Rattle.sheet.specs.Read.{header_bytes, turn_count, turns_of}
use Rattle.sheet.specs.Layout.{record_of}
use Rattle.archive_spec.specs.Column.{columns_of, column_turns, widths, first_turns}

-- ---- the bytes of maps and turns

-- record by record: each map with its fields
unfoldable pub records_body : List ℕ → List Turn → List ℕ
records_body [] ts = []
records_body (m ∷ ms) [] = []
records_body (m ∷ ms) (t ∷ ts) = record_of m t ++ records_body ms ts

-- by column: all maps, then each field's column
unfoldable pub columns_body : List ℕ → List Turn → List ℕ
columns_body ms ts = ms ++ columns_of ms ts

-- a form: its mark, bytes 3 to 6 of the header as they stand in s, and what follows
abbrev pub form_with : List ℕ → List ℕ → List ℕ → List ℕ
form_with mark s body = mark ++ (bytes_at s 3 4 ++ body)

-- the kept form with the header of s and these maps and turns
abbrev pub kept_with : List ℕ → List ℕ → List Turn → List ℕ
kept_with s ms ts = form_with kept_mark s (columns_body ms ts)

-- the sheet with the header of k and these maps and turns
abbrev pub restored_with : List ℕ → List ℕ → List Turn → List ℕ
restored_with k ms ts = form_with sheet_mark k (records_body ms ts)

-- how many bytes either form has
abbrev pub form_size : List ℕ → ℕ
form_size ms = header_bytes + length ms + widths ms

-- ---- from a sheet

-- the maps of the next k records from a place on
unfoldable pub maps_from : ℕ → List ℕ → ℕ → List ℕ
maps_from zero s at = []
maps_from (suc k) s at = get_or s at 0 ∷ maps_from k s (at + 1 + width_of (get_or s at 0))

-- the maps of a sheet
unfoldable pub sheet_maps : List ℕ → List ℕ
sheet_maps s = maps_from (turn_count s) s header_bytes

-- a sheet as it is kept
unfoldable pub kept_of : List ℕ → List ℕ
kept_of s = kept_with s (sheet_maps s) (turns_of s)

-- ---- from a kept form

-- the kind of sheet whose header a kept form has: a shift's with another mark
unfoldable pub archive : Kind
archive = record { mark = kept_mark; most = shift_sheet.most; maps = shift_sheet.maps; refusals = shift_sheet.refusals }

-- its maps, which stand after the header
unfoldable pub kept_maps : List ℕ → List ℕ
kept_maps k = take (turn_count k) (drop header_bytes k)

-- where its columns start
abbrev pub columns_at : List ℕ → ℕ
columns_at k = header_bytes + turn_count k

-- where they end
unfoldable pub kept_end : List ℕ → ℕ
kept_end k = columns_at k + widths (kept_maps k)

-- its turns
unfoldable pub kept_turns : List ℕ → List Turn
kept_turns k = column_turns (kept_maps k) k (columns_at k)

-- its sheet
unfoldable pub restored_of : List ℕ → List ℕ
restored_of k = restored_with k (kept_maps k) (kept_turns k)

-- ---- for the inner functions only: the turns are the first of a table

-- the kept form with these maps
abbrev pub kept_table : List ℕ → List ℕ → List ℕ → List ℕ
kept_table s ms table = kept_with s ms (first_turns (length ms) table)

-- that of n turns with the sheet's own maps
abbrev pub kept_first : ℕ → List ℕ → List ℕ → List ℕ
kept_first n s table = kept_with s (maps_from n s header_bytes) (first_turns n table)

-- records with these maps
abbrev pub table_records : List ℕ → List ℕ → List ℕ
table_records ms table = records_body ms (first_turns (length ms) table)

-- the sheet of n turns with the kept form's own maps
abbrev pub restored_first : ℕ → List ℕ → List ℕ → List ℕ
restored_first n k table = restored_with k (kept_maps k) (first_turns n table)
