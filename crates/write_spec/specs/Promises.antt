-- What writing a table hands back where nothing is refused: said of the bytes that the writer says it wrote (requests R-1, R-5). Assumes nothing.
use Rattle.std.specs.Prelude.{ℕ, ◌%◌, ◌≤◌, ◌≡◌, ◌↔◌, ◌≢◌, List, ◌∷◌, length, get_or, take, drop}
use Rattle.refusal.specs.Written.{wrote, written_part}
use Rattle.wire.specs.Number.{Bytes}
use Rattle.turn.specs.declared.Turn.{Turn}
use Rattle.turn.specs.declared.Counts.{Counts}
use Rattle.turn.specs.Turn.{counts_of, row_numbers, table_rows, table_turns}
use Rattle.sheet.specs.Kind.{shift_sheet}
use Rattle.sheet.specs.Read.{counts_in, read_of}
use Rattle.sheet.specs.Accepted.{SheetFor, Accepted}
use Rattle.write_spec.specs.Order.{SameTurns, InWrittenOrder}
use Rattle.write_spec.specs.Write.{write_of}

-- the bytes that the writer says it wrote
abbrev pub bytes_written : Counts → List ℕ → List ℕ → List ℕ
bytes_written counts table out = written_part (write_of counts table out)

-- what reading them puts into a lent table: as many numbers as the table has that was written
abbrev pub table_back : Counts → List ℕ → List ℕ → List ℕ → List ℕ
table_back counts table out lent = take (length table) (read_of (bytes_written counts table out) lent).lent

-- the counts that reading them gives
abbrev pub counts_back : Counts → List ℕ → List ℕ → List ℕ → Counts
counts_back counts table out lent = counts_of (read_of (bytes_written counts table out) lent).answer.groomers (read_of (bytes_written counts table out) lent).answer.slopes

-- ---- as statements

-- of an answer that refuses nothing
pub record WritePromised (counts : Counts) (table out : List ℕ) : Type 0 where
  -- there are as many bytes as the answer says
  pub many : length (bytes_written counts table out) ≡ (write_of counts table out).answer.bytes
  -- each is below 256
  pub below : Bytes (bytes_written counts table out)
  -- they are an accepted sheet
  pub accepted : Accepted (bytes_written counts table out)
  -- of these counts
  pub its_counts : counts_in (bytes_written counts table out) ≡ counts
  -- read into any lent table long enough they give these counts, and as many turns as the table has
  pub read_answer : (lent : List ℕ) → length table ≤ length lent → (read_of (bytes_written counts table out) lent).answer ≡ record { refusal = 0; groomers = counts.groomers; slopes = counts.slopes; turns = table_rows table }
  -- the lent table then begins with the table's turns, each as often, in the written order
  pub read_turns : (lent : List ℕ) → length table ≤ length lent → InWrittenOrder (table_turns table) (table_turns (table_back counts table out lent))
  -- and goes on as it was
  pub read_behind : (lent : List ℕ) → length table ≤ length lent → drop (length table) (read_of (bytes_written counts table out) lent).lent ≡ drop (length table) lent
  -- no sheet of these counts with the table's turns in the written order is shorter
  pub shortest : {s : List ℕ} {ts : List Turn} → SheetFor shift_sheet s counts ts → InWrittenOrder (table_turns table) ts → length (bytes_written counts table out) ≤ length s
  -- and one of the same length is these very bytes
  pub only : {s : List ℕ} {ts : List Turn} → SheetFor shift_sheet s counts ts → InWrittenOrder (table_turns table) ts → length s ≡ length (bytes_written counts table out) → s ≡ bytes_written counts table out
  -- the counts and the table that are read of them, written again into any lent bytes that are no fewer, give the same bytes, and after them what was there
  pub again : (lent other : List ℕ) → length table ≤ length lent → length (bytes_written counts table out) ≤ length other
      → write_of (counts_back counts table out lent) (table_back counts table out lent) other ≡ wrote (bytes_written counts table out) other
  -- a table that has the same turns, each as often, gives the same answer and bytes
  pub one_sheet : (other : List ℕ) → SameTurns (table_turns table) (table_turns other) → length other % row_numbers ≡ 0 → write_of counts other out ≡ write_of counts table out
  -- byte 7, the first map, is 3F exactly if the turn that stands first in the written order has a driver other than 0
  pub first_map_lem : (t : Turn) (ts : List Turn) → InWrittenOrder (table_turns table) (t ∷ ts) → (get_or (bytes_written counts table out) 7 0 ≡ 0x3F) ↔ (t.driver ≢ 0)
  -- and 1F otherwise
  pub first_map_else : (t : Turn) (ts : List Turn) → InWrittenOrder (table_turns table) (t ∷ ts) → t.driver ≡ 0 → get_or (bytes_written counts table out) 7 0 ≡ 0x1F
  -- after the bytes the lent bytes are as they were
  pub behind : drop (write_of counts table out).answer.bytes (write_of counts table out).lent ≡ drop (write_of counts table out).answer.bytes out
