-- From a sheet's table to the columns: what the functions on the way ask and give (no rule of its own). For inner functions only. Assumes nothing.
use Rattle.std.specs.Prelude.{◌≡◌, List, ℕ, ◌+◌, ◌*◌, ◌≤◌, ◌<◌, length, get_or}
use Rattle.turn.specs.Turn.{row_numbers, turn_in}
use Rattle.sheet.specs.Kind.{most_turns}
use Rattle.sheet.specs.Read.{turn_count, turns_of, counts_in, sheet_causes, answer_of}
use Rattle.instance.specs.declared.ways.Row.{Row}
use Rattle.instance.specs.declared.columns.Size.{Size}
use Rattle.instance.specs.Ways.{row_for}
use Rattle.instance.specs.Columns.{column_places, row_in, turns_by, Held}
use Rattle.instance_spec.specs.Problem.{problem_of, shift_gap, sheet_turns}
use Rattle.refusal.specs.Cause.{first_of}
use Rattle.sheet.specs.declared.answer.ReadAnswer.{ReadAnswer}

-- a shift of n turns
abbrev pub shift_size : ℕ → Size
shift_size n = record { count = n; gap = shift_gap }

-- the ends of a table's first n turns are 16-bit numbers too
unfoldable pub EndsFit : ℕ → List ℕ → Type 0
EndsFit n table = (t : ℕ) → t < n → (turn_in table t).start + (turn_in table t).length < 65536

-- column j, for each j below k, has value j of each of the table's first n turns
pub record Copied (table : List ℕ) (n : ℕ) (cols : List ℕ) (k : ℕ) : Type 0 where
  pub places : length cols ≡ column_places
  pub values : (j t : ℕ) → j < k → t < n → get_or cols (j * most_turns + t) 0 ≡ get_or table (t * row_numbers + j) 0

-- and the next one those of the first i turns
pub record CopiedTo (table : List ℕ) (n : ℕ) (cols : List ℕ) (k i : ℕ) : Type 0 where
  pub before : Copied table n cols k
  pub column : (t : ℕ) → t < i → get_or cols (k * most_turns + t) 0 ≡ get_or table (t * row_numbers + k) 0

-- a row that has a length where an end is due, put right
unfoldable pub with_end : Row → Row
with_end r = record { slope = r.slope; groomer = r.groomer; start = r.start; end = r.start + r.end; worth = r.worth; driver = r.driver }

-- the ends that n such rows are due are 16-bit numbers
unfoldable pub LengthsFit : ℕ → List ℕ → Type 0
LengthsFit n cols = (t : ℕ) → t < n → (row_in cols t).start + (row_in cols t).end < 65536

-- of n such rows the first i are put right, the others are as they were
pub record EndsPut (n : ℕ) (old cols : List ℕ) (i : ℕ) : Type 0 where
  pub places : length cols ≡ column_places
  pub put : (t : ℕ) → t < i → row_in cols t ≡ with_end (row_in old t)
  pub rest : (t : ℕ) → i ≤ t → t < n → row_in cols t ≡ row_in old t

-- the first i rows of the columns are those of the table's turns
unfoldable pub RowsOf : List ℕ → List ℕ → ℕ → Type 0
RowsOf table cols i = (t : ℕ) → t < i → row_in cols t ≡ row_for (turn_in table t)

-- the columns hold the problem that the sheet's turns pose with a gap
pub record PosedFor (gap : ℕ) (s cols : List ℕ) : Type 0 where
  pub turns : turns_by (record { count = turn_count s; gap = gap }) cols ≡ problem_of gap (turns_of s)
  pub held : Held (record { count = turn_count s; gap = gap }) cols

-- of a shift's sheet that is not refused: the reader's answer has its counts, and the columns hold a shift of its turns
pub record Posed (s : List ℕ) (r : ReadAnswer) (cols : List ℕ) : Type 0 where
  pub sound : first_of (sheet_causes s) ≡ 0
  pub groomers : r.groomers ≡ (counts_in s).groomers
  pub slopes : r.slopes ≡ (counts_in s).slopes
  pub count : r.turns ≡ turn_count s
  pub turns : turns_by (shift_size r.turns) cols ≡ sheet_turns s
  pub held : Held (shift_size r.turns) cols

-- any bytes as a shift's sheet, read into columns: the answer is the reader's, its refusal is the first cause's number, and without one they are so posed
pub record Loaded (s : List ℕ) (r : ReadAnswer) (cols : List ℕ) : Type 0 where
  pub answer : r ≡ answer_of s
  pub refusal : r.refusal ≡ first_of (sheet_causes s)
  pub posed : r.refusal ≡ 0 → Posed s r cols
