-- A whole sheet, read (document 01: the sheet, refusals 1 to 11). Assumes nothing.
use Rattle.std.specs.Prelude.{ℕ, zero, suc, ◌*◌, List, [], ◌∷◌, ◌++◌, not, length, ltb, Result, Ok, Err}
use Rattle.refusal.specs.declared.Refusal.{Refusal}
use Rattle.refusal.specs.Failure.{number_of}
use Rattle.refusal.specs.Number.{truncated, bad_magic, trailing_bytes}
use Rattle.refusal.specs.Cause.{Cause, ◌when◌}
use Rattle.wire.specs.Number.{value_at}
use Rattle.wire.specs.Mark.{opens_with}
use Rattle.turn.specs.declared.Turn.{Turn}
use Rattle.turn.specs.declared.Counts.{Counts}
use Rattle.turn.specs.Turn.{row_numbers, rows, outside_range}
use Rattle.sheet.specs.declared.record.Cursor.{Cursor}
use Rattle.sheet.specs.declared.answer.ReadAnswer.{ReadAnswer}
use Rattle.sheet.specs.Kind.{Kind, shift_sheet}
use Rattle.sheet.specs.Record.{record_causes, turn_at, cursor_after, first_cursor}
use Rattle.refusal.specs.Written.{at_front}
use Rattle.refusal.specs.Outcome.{Outcome, beside, unless, then_room}

-- the bytes before the first record
abbrev pub header_bytes : ℕ
header_bytes = 7

-- a header's counts: groomers in byte 3, slopes in byte 4
abbrev pub counts_in : List ℕ → Counts
counts_in s = record { groomers = value_at s 3 1; slopes = value_at s 4 1 }

-- the number of turns that the header names, in bytes 5 and 6
abbrev pub turn_count : List ℕ → ℕ
turn_count s = value_at s 5 2

-- what may be wrong with the counts of a header, in the order of refusal
unfoldable pub count_causes : Kind → Counts → ℕ → List Cause
count_causes K counts turns =
    K.refusals.counts when outside_range counts.groomers K.most.groomers
    ∷ K.refusals.counts when outside_range counts.slopes K.most.slopes
    ∷ K.refusals.turns when ltb K.most.turns turns
    ∷ []

-- what may be wrong with a header: too few bytes, another mark, then its counts
unfoldable pub header_causes : Kind → List ℕ → List Cause
header_causes K s =
    truncated when ltb (length s) header_bytes
    ∷ bad_magic when not (opens_with K.mark s)
    ∷ count_causes K (counts_in s) (turn_count s)

-- what may be wrong with the next k records, one after another, and then after the last
unfoldable pub records_causes : Kind → ℕ → List ℕ → Counts → Cursor → List Cause
records_causes K zero s limits c = trailing_bytes when ltb c.at (length s) ∷ []
records_causes K (suc k) s limits c = record_causes K s limits c ++ records_causes K k s limits (cursor_after s c)

-- the turns of the next k records
unfoldable pub turns_from : ℕ → List ℕ → Cursor → List Turn
turns_from zero s c = []
turns_from (suc k) s c = turn_at s c ∷ turns_from k s (cursor_after s c)

-- ---- a sheet: its turns and its table, and what may be wrong with it as a sheet of a kind

-- the turns of a sheet
unfoldable pub turns_of : List ℕ → List Turn
turns_of s = turns_from (turn_count s) s first_cursor

-- its turn table
unfoldable pub table_of : List ℕ → List ℕ
table_of s = rows (turns_of s)

-- all causes, in the order of its bytes
unfoldable pub causes_for : Kind → List ℕ → List Cause
causes_for K s = header_causes K s ++ records_causes K (turn_count s) s (counts_in s) first_cursor

-- ---- the reader: it wants a row of places a turn

-- and last the lent table
unfoldable pub read_causes_for : Kind → List ℕ → ℕ → List Cause
read_causes_for K s places = then_room (causes_for K s) (row_numbers * turn_count s) places

-- what is returned, and what the lent table holds then
abbrev pub Reading : Type 0
Reading = Outcome ReadAnswer (List ℕ)

-- a refusal returns its number and no counts
abbrev pub read_refused : ℕ → ReadAnswer
read_refused k = record { refusal = k; groomers = 0; slopes = 0; turns = 0 }

-- the answer of a sheet that is not refused: its header's counts
abbrev pub read_answer : List ℕ → ReadAnswer
read_answer s = record { refusal = 0; groomers = (counts_in s).groomers; slopes = (counts_in s).slopes; turns = turn_count s }

-- the answer by what was read, counts and the number of turns, or by a refusal
abbrev pub answer_by : Result (Counts × ℕ) Refusal → ReadAnswer
answer_by (Ok x) = record { refusal = 0; groomers = x.0.groomers; slopes = x.0.slopes; turns = x.1 }
answer_by (Err k) = read_refused (number_of k)

-- the answer where the table has places for every sheet: no cause but the sheet's own
unfoldable pub answer_for : Kind → List ℕ → ReadAnswer
answer_for K s = unless (causes_for K s) (read_answer s) read_refused

-- on success the table, then what was there; on a refusal all as before
unfoldable pub read_for : Kind → List ℕ → List ℕ → Reading
read_for K s lent = unless (read_causes_for K s (length lent)) (beside (read_answer s) (at_front (table_of s) lent)) (λ k. beside (read_refused k) lent)

-- ---- a shift's sheet

-- its causes
unfoldable pub sheet_causes : List ℕ → List Cause
sheet_causes = causes_for shift_sheet

-- its answer
abbrev pub answer_of : List ℕ → ReadAnswer
answer_of = answer_for shift_sheet

-- reading it
unfoldable pub read_of : List ℕ → List ℕ → Reading
read_of = read_for shift_sheet
