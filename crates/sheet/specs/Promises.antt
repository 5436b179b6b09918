-- What reading a sheet hands back: said of the answer and of the lent table, beside the sheet's reading in words (document 01: the sheet, and what the box says). Assumes nothing.
use Rattle.std.specs.Prelude.{ℕ, ◌*◌, ◌≤◌, ◌≡◌, ◌↔◌, List, length, take, drop}
use Rattle.turn.specs.Turn.{row_numbers, rows}
use Rattle.sheet.specs.Kind.{Kind, shift_sheet}
use Rattle.sheet.specs.Read.{read_refused, read_of, Reading}
use Rattle.sheet.specs.Accepted.{AcceptedFor}
use Rattle.refusal.specs.Outcome.{beside}

-- what is returned and what the lent table holds then are those of the reading a in words
pub record ReadInto (K : Kind) (s lent : List ℕ) (a : AcceptedFor K s) (out : Reading) : Type 0 where
  -- the answer has its counts, and how many turns there are
  pub answer : out.answer ≡ record { refusal = 0; groomers = a.counts.groomers; slopes = a.counts.slopes; turns = length a.turns }
  -- the table begins with the rows of its turns, in their order
  pub front : take (row_numbers * length a.turns) out.lent ≡ rows a.turns
  -- after them it is as it was
  pub behind : drop (row_numbers * length a.turns) out.lent ≡ drop (row_numbers * length a.turns) lent

-- of reading s, as a sheet of a kind, into a lent table
pub record ReadPromisedFor (K : Kind) (s lent : List ℕ) (out : Reading) : Type 0 where
  -- nothing is refused exactly if s has a reading in words and the table a row of places for each of its turns
  pub exactly : (out.answer.refusal ≡ 0) ↔ ((a : AcceptedFor K s) × (row_numbers * length a.turns ≤ length lent))
  -- then answer and table are those of that reading
  pub reads : out.answer.refusal ≡ 0 → (a : AcceptedFor K s) → ReadInto K s lent a out
  -- a refusal is its number and no counts, and the table is as it was
  pub refuses : (out.answer.refusal ≡ 0 → ⊥) → out ≡ beside (read_refused out.answer.refusal) lent

-- a shift's reader
abbrev pub ReadPromised : List ℕ → List ℕ → Type 0
ReadPromised s lent = ReadPromisedFor shift_sheet s lent (read_of s lent)
