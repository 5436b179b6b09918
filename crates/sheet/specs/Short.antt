-- The short reader's sheets: a shift's with fewer turns (request R-8). Assumes nothing.
use Rattle.std.specs.Prelude.{ℕ, ◌*◌, ◌≡◌, List, take, drop}
use Rattle.refusal.specs.Number.{too_many_for_short}
use Rattle.turn.specs.Turn.{row_numbers}
use Rattle.refusal.specs.Cause.{FirstAmong}
use Rattle.sheet.specs.Kind.{Kind, shift_sheet, with_turns}
use Rattle.sheet.specs.Read.{read_for, Reading}
use Rattle.sheet.specs.Accepted.{AcceptedFor, ReadCauseFor}

-- the most turns that the short reader takes
abbrev pub short_turns : ℕ
short_turns = 96

-- its sheet: a shift's with that limit, and a number of its own for more
unfoldable pub short_sheet : Kind
short_sheet = with_turns shift_sheet short_turns too_many_for_short

-- reading it
unfoldable pub read_short_of : List ℕ → List ℕ → Reading
read_short_of = read_for short_sheet

-- ---- as statements

-- the bytes are made as such a sheet is made
abbrev pub AcceptedShort : List ℕ → Type 0
AcceptedShort = AcceptedFor short_sheet

-- the first cause to refuse them, or the lent table, has number k
abbrev pub FirstShortCause : List ℕ → ℕ → ℕ → Type 0
FirstShortCause s places k = FirstAmong (ReadCauseFor short_sheet s places) k

-- two readings, into the lent tables a and b, say the same
pub record ReadAlike (p q : Reading) (a b : List ℕ) : Type 0 where
  -- one answer
  pub one_answer : p.answer ≡ q.answer
  -- the same numbers in front, a row for each turn of the answer
  pub same_rows : take (row_numbers * p.answer.turns) p.lent ≡ take (row_numbers * q.answer.turns) q.lent
  -- after them either table is as it was
  pub first_behind : drop (row_numbers * p.answer.turns) p.lent ≡ drop (row_numbers * p.answer.turns) a
  pub second_behind : drop (row_numbers * q.answer.turns) q.lent ≡ drop (row_numbers * q.answer.turns) b
