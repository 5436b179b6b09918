-- Turns in columns of numbers, one column after another: slopes, groomers, starts, ends, worths, drivers (no rule of its own). For inner functions only. Assumes nothing.
use Rattle.std.specs.Prelude.{◌≡◌, cond, List, ℕ, ◌+◌, ◌*◌, ◌≤◌, ◌<◌, ltb, length, get_or, set}
use Rattle.turn.specs.Turn.{shift_minutes, most_worth}
use Rattle.model.specs.Turns.{Turns}
use Rattle.sheet.specs.Kind.{most_turns}
use Rattle.instance.specs.declared.ways.Row.{Row}
use Rattle.instance.specs.declared.columns.Size.{Size}

-- how many columns there are
abbrev pub column_count : ℕ
column_count = 6

-- the places of all of them
abbrev pub column_places : ℕ
column_places = column_count * most_turns

-- the numbers that a slope can have: every kind of sheet has it in a byte
abbrev pub slope_places : ℕ
slope_places = 256

-- the row at place i
unfoldable pub row_in : List ℕ → ℕ → Row
row_in cols i =
    record {
      slope = get_or cols i 0;
      groomer = get_or cols (most_turns + i) 0;
      start = get_or cols (2 * most_turns + i) 0;
      end = get_or cols (3 * most_turns + i) 0;
      worth = get_or cols (4 * most_turns + i) 0;
      driver = get_or cols (5 * most_turns + i) 0;
    }

-- the columns with a row at place i
unfoldable pub with_row : List ℕ → ℕ → Row → List ℕ
with_row cols i r =
    set (set (set (set (set (set cols i r.slope) (most_turns + i) r.groomer) (2 * most_turns + i) r.start) (3 * most_turns + i) r.end) (4 * most_turns + i) r.worth) (5 * most_turns + i) r.driver

-- what is read of the first n places; 0 after them
unfoldable pub within : ℕ → (ℕ → ℕ) → ℕ → ℕ
within n f t = cond (ltb t n) (f t) 0

-- the problem that the first rows of the columns pose
unfoldable pub turns_by : Size → List ℕ → Turns
turns_by p cols =
    record {
      count = p.count;
      gap = p.gap;
      slope = within p.count (λ i. (row_in cols i).slope);
      groomer = within p.count (λ i. (row_in cols i).groomer);
      start = within p.count (λ i. (row_in cols i).start);
      end = within p.count (λ i. (row_in cols i).end);
      worth = within p.count (λ i. (row_in cols i).worth);
      driver = within p.count (λ i. (row_in cols i).driver);
    }

-- ---- as statements

-- columns that hold a problem within what every sheet keeps to: not more turns, each with a slope's number, at least a minute long, within the shift, and no dearer
pub record Held (p : Size) (cols : List ℕ) : Type 0 where
  pub places : length cols ≡ column_places
  pub few : p.count ≤ most_turns
  pub slopes : (t : ℕ) → t < p.count → (turns_by p cols).slope t < slope_places
  pub starts : (t : ℕ) → t < p.count → (turns_by p cols).start t < (turns_by p cols).end t
  pub ends : (t : ℕ) → t < p.count → (turns_by p cols).end t ≤ shift_minutes
  pub worths : (t : ℕ) → t < p.count → (turns_by p cols).worth t ≤ most_worth
