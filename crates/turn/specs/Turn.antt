-- A turn's values, what they are in memory, and what may be wrong with them (document 01: turns, refusals 6 to 9; request R-5). Assumes nothing.
use Rattle.std.specs.Prelude.{Bool, true, cond, List, [], ◌∷◌, ◌++◌, ℕ, zero, suc, ◌+◌, ◌*◌, ◌/◌, ◌≤◌, ltb, eqb, length, get_or, Option, Some, None}
use Rattle.refusal.specs.Number.{bad_time, bad_worth, bad_driver}
use Rattle.refusal.specs.Cause.{Cause, ◌when◌}
use Rattle.turn.specs.declared.Turn.{Turn}
use Rattle.turn.specs.declared.Counts.{Counts}
use Rattle.refusal.specs.declared.Refusal.{Refusal}
use Rattle.refusal.specs.Failure.{number_of}
use Rattle.turn.specs.declared.Refusals as declared

-- the minute at which every turn has ended
abbrev pub shift_minutes : ℕ
shift_minutes = 960

-- the greatest worth
abbrev pub most_worth : ℕ
most_worth = 60000

-- the greatest number of a driver; 0 is none
abbrev pub most_driver : ℕ
most_driver = 40

-- two numbers as counts
abbrev pub counts_of : ℕ → ℕ → Counts
counts_of groomers slopes = record { groomers = groomers; slopes = slopes }

-- ---- in memory: a table, one row a turn

-- the numbers of a row
abbrev pub row_numbers : ℕ
row_numbers = 6

-- a turn's row: its numbers in this order
abbrev pub row_of : Turn → List ℕ
row_of t = t.slope ∷ t.groomer ∷ t.start ∷ t.length ∷ t.worth ∷ t.driver ∷ []

-- the table of some turns
unfoldable pub rows : List Turn → List ℕ
rows [] = []
rows (t ∷ ts) = row_of t ++ rows ts

-- turn i of a table
abbrev pub turn_in : List ℕ → ℕ → Turn
turn_in table i =
    record {
      slope = get_or table (i * row_numbers) 0;
      groomer = get_or table (i * row_numbers + 1) 0;
      start = get_or table (i * row_numbers + 2) 0;
      length = get_or table (i * row_numbers + 3) 0;
      worth = get_or table (i * row_numbers + 4) 0;
      driver = get_or table (i * row_numbers + 5) 0;
    }

-- the turns i, i + 1, .. of a table, k in all
unfoldable pub turns_of_table : ℕ → List ℕ → ℕ → List Turn
turns_of_table zero table i = []
turns_of_table (suc k) table i = turn_in table i ∷ turns_of_table k table (i + 1)

-- the rows of a table
abbrev pub table_rows : List ℕ → ℕ
table_rows table = length table / row_numbers

-- all turns of a table
abbrev pub table_turns : List ℕ → List Turn
table_turns table = turns_of_table (table_rows table) table 0

-- ---- what may be wrong

-- the numbers of the refusals that go by the kind of sheet: of its counts, of too many turns, of a turn's slope and of its groomer
pub record Refusals : Type 0 where
  pub counts : ℕ
  pub turns : ℕ
  pub slope : ℕ
  pub groomer : ℕ

-- the number of a refusal, 0 where there is none
abbrev pub number_in : Option Refusal → ℕ
number_in None = 0
number_in (Some k) = number_of k

-- the numbers of those that the code has
abbrev pub numbers_of : declared.Refusals → Refusals
numbers_of r = record { counts = number_in r.counts; turns = number_in r.turns; slope = number_in r.slope; groomer = number_in r.groomer }

-- x is 0 or above top
unfoldable pub outside_range : ℕ → ℕ → Bool
outside_range x top = cond (eqb x 0) true (ltb top x)

-- a length of 0, or an end after the shift
unfoldable pub past_shift : ℕ → ℕ → Bool
past_shift start len = cond (eqb len 0) true (ltb shift_minutes (start + len))

-- what may be wrong with a turn, in the order of refusal: slope, groomer, time, worth, driver; the numbers of the first two go by the kind of sheet
unfoldable pub turn_causes : Refusals → Counts → Turn → List Cause
turn_causes refusals limits t =
    refusals.slope when outside_range t.slope limits.slopes
    ∷ refusals.groomer when outside_range t.groomer limits.groomers
    ∷ bad_time when past_shift t.start t.length
    ∷ bad_worth when outside_range t.worth most_worth
    ∷ bad_driver when ltb most_driver t.driver
    ∷ []

-- ---- as statements

-- refusals that are told from none, which is 0
pub record Numbered (refusals : Refusals) : Type 0 where
  pub counts : 1 ≤ refusals.counts
  pub turns : 1 ≤ refusals.turns
  pub slope : 1 ≤ refusals.slope
  pub groomer : 1 ≤ refusals.groomer

-- nothing is wrong with a turn
pub record InRange (limits : Counts) (t : Turn) : Type 0 where
  pub slope_from : 1 ≤ t.slope
  pub slope_to : t.slope ≤ limits.slopes
  pub groomer_from : 1 ≤ t.groomer
  pub groomer_to : t.groomer ≤ limits.groomers
  pub length_from : 1 ≤ t.length
  pub end_to : t.start + t.length ≤ shift_minutes
  pub worth_from : 1 ≤ t.worth
  pub worth_to : t.worth ≤ most_worth
  pub driver_to : t.driver ≤ most_driver
