-- The problem that a list of turns poses, and a sheet's (document 01: turns; requests R-2, R-5). Assumes nothing.
use Rattle.std.specs.Prelude.{◌≡◌, List, ℕ, ◌+◌, ◌≤◌, ◌<◌, length, get_or}
use Rattle.model.specs.Turns.{Turns, OneDriver}
use Rattle.turn.specs.declared.Turn.{Turn}
use Rattle.sheet.specs.Read.{turns_of}

-- after the last turn everything reads as 0
abbrev pub no_turn : Turn
no_turn = record { slope = 0; groomer = 0; start = 0; length = 0; worth = 0; driver = 0 }

-- turns in their order, with the free minutes that a groomer or a driver needs between two of its turns; a turn's end is its start plus its length
unfoldable pub problem_of : ℕ → List Turn → Turns
problem_of gap ts =
    record {
      count = length ts;
      gap = gap;
      slope = λ t. (get_or ts t no_turn).slope;
      groomer = λ t. (get_or ts t no_turn).groomer;
      start = λ t. (get_or ts t no_turn).start;
      end = λ t. (get_or ts t no_turn).start + (get_or ts t no_turn).length;
      worth = λ t. (get_or ts t no_turn).worth;
      driver = λ t. (get_or ts t no_turn).driver;
    }

-- the free minutes that a groomer or a driver needs between two turns of a shift
abbrev pub shift_gap : ℕ
shift_gap = 10

-- a sheet's turns, as the model speaks of them
unfoldable pub sheet_turns : List ℕ → Turns
sheet_turns s = problem_of shift_gap (turns_of s)

-- ---- as statements

-- request R-2: turns x and y of a sheet share a minute, or from the end of one to the start of the other there are 9 minutes or fewer
pub data TooClose (s : List ℕ) (x y : ℕ) : Type 0 where
  shared : (minute : ℕ) → (sheet_turns s).start x ≤ minute → minute < (sheet_turns s).end x → (sheet_turns s).start y ≤ minute → minute < (sheet_turns s).end y → TooClose s x y
  after : (free : ℕ) → free ≤ 9 → (sheet_turns s).start y ≡ (sheet_turns s).end x + free → TooClose s x y
  before : (free : ℕ) → free ≤ 9 → (sheet_turns s).start x ≡ (sheet_turns s).end y + free → TooClose s x y

-- turns x and y of a sheet conflict: they have one slope, or are too close and have one groomer or, since R-5, one driver
pub data SheetConflict (s : List ℕ) (x y : ℕ) : Type 0 where
  one_slope : (sheet_turns s).slope x ≡ (sheet_turns s).slope y → SheetConflict s x y
  one_groomer_way : (sheet_turns s).groomer x ≡ (sheet_turns s).groomer y → TooClose s x y → SheetConflict s x y
  one_driver_way : OneDriver (sheet_turns s) x y → TooClose s x y → SheetConflict s x y
