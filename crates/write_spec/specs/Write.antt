-- Writing a sheet: the shortest one that has the table's turns, in the written order (document 01: the sheet; requests R-1, R-5). Assumes nothing.
use Rattle.std.specs.Prelude.{ℕ, ◌+◌, ◌*◌, ◌%◌, List, [], ◌∷◌, ◌++◌, Bool, true, false, not, cond, length, eqb}
use Rattle.refusal.specs.Number.{partial_turn}
use Rattle.refusal.specs.Cause.{Cause, ◌when◌}
use Rattle.refusal.specs.Written.{Written, written_unless}
use Rattle.turn.specs.declared.Turn.{Turn}
use Rattle.turn.specs.declared.Counts.{Counts}
use Rattle.wire.specs.Mark.{sheet_mark}
use Rattle.turn.specs.Turn.{Refusals}
use Rattle.turn.specs.Turn.{row_numbers, table_rows, table_turns, turn_causes}
use Rattle.sheet.specs.Kind.{first_map, shift_sheet}
use Rattle.sheet.specs.Record.{first_cursor}
use Rattle.sheet.specs.Read.{count_causes}
use Rattle.sheet.specs.Layout.{record_of, header_for}
use Rattle.write_spec.specs.Order.{sorted_turns}
use Rattle.refusal.specs.Outcome.{then_room}

-- ---- the bytes

-- 1 where two values differ
abbrev pub differs : ℕ → ℕ → ℕ
differs a b = cond (eqb a b) 0 1

-- the map of turn t's record, written after turn p. A later record has a bit for each value that differs from p's. The first record has every bit but the driver's, and this one only for a driver other than 0, since before it p has driver 0
unfoldable pub map_for : Bool → Turn → Turn → ℕ
map_for true p t = first_map + 32 * differs p.driver t.driver
map_for false p t =
    differs p.slope t.slope
    + 2 * differs p.groomer t.groomer
    + 4 * differs p.start t.start
    + 8 * differs p.length t.length
    + 16 * differs p.worth t.worth
    + 32 * differs p.driver t.driver

-- the records of turns after the turn p, each with the map above
unfoldable pub records_of : Bool → Turn → List Turn → List ℕ
records_of first p [] = []
records_of first p (t ∷ ts) = record_of (map_for first p t) t ++ records_of false t ts

-- all records of a sheet
abbrev pub all_records : List Turn → List ℕ
all_records ts = records_of true first_cursor.prev ts

-- a whole sheet: the header, then the records
unfoldable pub sheet_of : Counts → List Turn → List ℕ
sheet_of counts ts = header_for sheet_mark counts (length ts) ++ all_records ts

-- the turns of the sheet that is written for a table
abbrev pub written_turns : List ℕ → List Turn
written_turns table = sorted_turns (table_turns table)

-- ---- what may be wrong, in the order of refusal: a length that makes no whole rows, the counts, the turns one by one as the table has them, the lent bytes

-- turn by turn, each with the causes of a turn
unfoldable pub turns_causes : Refusals → Counts → List Turn → List Cause
turns_causes refusals counts [] = []
turns_causes refusals counts (t ∷ ts) = turn_causes refusals counts t ++ turns_causes refusals counts ts

-- everything but the lent bytes
unfoldable pub table_causes : Counts → List ℕ → List Cause
table_causes counts table =
    partial_turn when not (eqb (length table % row_numbers) 0)
    ∷ (count_causes shift_sheet counts (table_rows table) ++ turns_causes shift_sheet.refusals counts (table_turns table))

-- and last the lent bytes
unfoldable pub write_causes : Counts → List ℕ → ℕ → List Cause
write_causes counts table places = then_room (table_causes counts table) (length (sheet_of counts (written_turns table))) places

-- on success the sheet, then what was there; on a refusal all as before
unfoldable pub write_of : Counts → List ℕ → List ℕ → Written
write_of counts table lent = written_unless (write_causes counts table (length lent)) (sheet_of counts (written_turns table)) lent

-- the sheet of some turns, in this order, if the lent bytes are enough
unfoldable pub sheet_written : Counts → List Turn → List ℕ → Written
sheet_written counts ts lent = written_unless (then_room [] (length (sheet_of counts ts)) (length lent)) (sheet_of counts ts) lent
