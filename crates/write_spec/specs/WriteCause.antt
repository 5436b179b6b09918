-- Where each cause to refuse writing a table stands, as statements (document 01: what the box says, the writer; requests R-1, R-5). Assumes nothing.
use Rattle.std.specs.Prelude.{ℕ, ◌+◌, ◌*◌, ◌%◌, ◌<◌, ◌≢◌, List, length}
use Rattle.refusal.specs.Number.{bad_counts, too_many_turns, bad_slope, bad_groomer, bad_time, bad_worth, bad_driver, partial_turn}
use Rattle.turn.specs.declared.Counts.{Counts}
use Rattle.turn.specs.Turn.{row_numbers, turn_in, table_rows, most_worth, most_driver}
use Rattle.sheet.specs.Kind.{most_groomers, most_slopes, most_turns}
use Rattle.sheet.specs.Accepted.{Outside, WrongTime}
use Rattle.refusal.specs.Words.{ThenRoom}
use Rattle.refusal.specs.Cause.{FirstAmong}
use Rattle.write_spec.specs.Write.{written_turns, sheet_of}

-- place 0: the table's length; 1 to 3: the counts; then five places a turn; then the lent bytes
abbrev pub row_place : ℕ → ℕ → ℕ
row_place i k = 4 + (5 * i + k)

-- a cause to refuse a table with these counts is there: its number, and its place in the order
pub data TableCause (counts : Counts) (table : List ℕ) : ℕ → ℕ → Type 0 where
  partial_turn_cause : length table % row_numbers ≢ 0 → TableCause counts table partial_turn 0
  groomer_count : Outside counts.groomers most_groomers → TableCause counts table bad_counts 1
  slope_count : Outside counts.slopes most_slopes → TableCause counts table bad_counts 2
  turn_count_cause : most_turns < table_rows table → TableCause counts table too_many_turns 3
  slope : (i : ℕ) → i < table_rows table → Outside (turn_in table i).slope counts.slopes → TableCause counts table bad_slope (row_place i 0)
  groomer : (i : ℕ) → i < table_rows table → Outside (turn_in table i).groomer counts.groomers → TableCause counts table bad_groomer (row_place i 1)
  time : (i : ℕ) → i < table_rows table → WrongTime (turn_in table i) → TableCause counts table bad_time (row_place i 2)
  worth : (i : ℕ) → i < table_rows table → Outside (turn_in table i).worth most_worth → TableCause counts table bad_worth (row_place i 3)
  driver : (i : ℕ) → i < table_rows table → most_driver < (turn_in table i).driver → TableCause counts table bad_driver (row_place i 4)

-- and after them all that so many lent bytes are too few for the sheet
abbrev pub WriteCause : Counts → List ℕ → ℕ → ℕ → ℕ → Type 0
WriteCause counts table = ThenRoom (TableCause counts table) (row_place (table_rows table) 0) (length (sheet_of counts (written_turns table)))

-- the first of them has number k
abbrev pub FirstWriteCause : Counts → List ℕ → ℕ → ℕ → Type 0
FirstWriteCause counts table places k = FirstAmong (WriteCause counts table places) k
