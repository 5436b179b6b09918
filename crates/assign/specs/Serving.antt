-- The groomers as the code keeps them while turns get their numbers: until when each is busy. For inner functions only (request R-4). Assumes nothing.
use Rattle.std.specs.Prelude.{◌≡◌, List, ℕ, ◌+◌, ◌≤◌, ◌<◌, length, get_or, drop}
use Rattle.model.specs.Turns.{Turns}
use Rattle.sheet.specs.Kind.{most_turns}
use Rattle.assign_spec.specs.Underway.{Underway}
use Rattle.assign.specs.declared.assigning.Groomers.{Groomers}
use Rattle.assign_spec.specs.Numbering.{number_in, number_all, numbers_of, greatest}
use Rattle.instance_spec.specs.ByStart.{order_by_start}

-- a turn that can get its number next: it has none, no turn that has one starts later, and fewer numbers are given than there are turns
pub record NextIn (T : Turns) (numbers : List ℕ) (t : ℕ) : Type 0 where
  pub inside : t < T.count
  pub places : length numbers ≡ T.count
  pub none : number_in numbers t ≡ 0
  pub later : (u : ℕ) → 1 ≤ number_in numbers u → T.start u ≤ T.start t
  pub few : (u : ℕ) → number_in numbers u < T.count

-- how many groomers have got a turn, and until when each is busy: to the end and the gap of its last turn. Groomer k + 1 stands at place k
pub record BusyUntil (T : Turns) (numbers : List ℕ) (used : ℕ) (busy : List ℕ) : Type 0 where
  pub places : length busy ≡ most_turns
  pub many : used ≡ greatest numbers
  pub till : (u k : ℕ) → number_in numbers u ≡ k + 1 → T.end u + T.gap ≤ get_or busy k 0
  pub last : (k : ℕ) → k < used → (u : ℕ) × (number_in numbers u ≡ k + 1) × (get_or busy k 0 ≡ T.end u + T.gap)

-- none of the groomers used is free before the earliest minute
unfoldable pub NoneBefore : List ℕ → Groomers → Type 0
NoneBefore busy g = (k : ℕ) → k < g.used → g.earliest ≤ get_or busy k 0

-- the first of the groomers used whose busy time is over at a start; the next one if none is
pub record FirstFree (busy : List ℕ) (used start k : ℕ) : Type 0 where
  pub known : k ≤ used
  pub over : k < used → get_or busy k 0 ≤ start
  pub before : (j : ℕ) → j < k → start < get_or busy j 0

-- the first i turns of the order have their numbers
pub record Serving (T : Turns) (i used : ℕ) (busy numbers : List ℕ) : Type 0 where
  pub underway : Underway T (drop i (order_by_start T)) numbers
  pub ahead : number_all T (drop i (order_by_start T)) numbers ≡ numbers_of T
  pub groomers : BusyUntil T numbers used busy
