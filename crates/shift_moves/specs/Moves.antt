-- How the functions count who pays and move prices; for inner functions only (request P-2). Assumes nothing.
use Rattle.std.specs.Prelude.{◌≡◌, ◌≢◌, Bool, cond, ◌&&◌, List, ℕ, ◌+◌, ◌-◌, ◌*◌, ◌≤◌, ◌<◌, ltb, leb, eqb, length, get_or}
use Rattle.lists.specs.Lists.{sum_over, All}
use Rattle.lists.specs.Counting.{sum_before}
use Rattle.model.specs.Choice.{chosen}
use Rattle.sheet.specs.Kind.{most_turns}
use Rattle.shift_look.specs.declared.Extent.{Extent}
use Rattle.shift_look.specs.OrdersAndCounts.{turns_in, order_places, drivers_turn, paid_from, paid_to}
use Rattle.refine_spec.specs.Shift.{moved_price, moved_prices}

-- a place for each number from 0 to the most turns
abbrev pub payer_places : ℕ
payer_places = most_turns + 1

-- number t of a list, counted from a place on
abbrev pub number_behind : List ℕ → ℕ → ℕ → ℕ
number_behind numbers at t = get_or numbers (at + t) 0

-- how many turns of a list have number k
unfoldable pub times_taken : List ℕ → (ℕ → ℕ) → ℕ → ℕ
times_taken taken f k = sum_over (λ t. cond (eqb (f t) k) 1 0) taken

-- how many of them pay for the place of the drivers' order before place m: their runs start before m and do not end before it
unfoldable pub payers_before : List ℕ → List ℕ → ℕ → ℕ
payers_before taken orders m = sum_over (λ t. cond (ltb (paid_from orders t) m && leb m (paid_to orders t)) 1 0) taken

-- those that joined before place m, less those that left before it
abbrev pub payers_present : List ℕ → List ℕ → ℕ → ℕ
payers_present joining leaving m = sum_before joining m - sum_before leaving m

-- where no turn names a driver, no turn's price has a payer
abbrev pub nobody : ℕ → ℕ
nobody u = 0

-- the payers at a place of a table, and those at the place after it
abbrev pub payers_at : List ℕ → ℕ → ℕ
payers_at payers j = get_or payers j 0

abbrev pub payers_after : List ℕ → ℕ → ℕ
payers_after payers k = get_or payers (k + 1) 0

-- how many turns of a list pay the price at place k of the slopes' prices, which is that of slope k + 1
abbrev pub slope_payers_in : Extent → List ℕ → List ℕ → ℕ → ℕ
slope_payers_in e cols taken k = times_taken taken (turns_in e cols).slope (k + 1)

-- and how many pay for place j of the drivers' order
abbrev pub turn_payers_in : List ℕ → List ℕ → ℕ → ℕ
turn_payers_in orders taken j = payers_before taken orders (j + 1)

-- a slope's price stands where it is counted
abbrev pub own_place : ℕ → ℕ
own_place k = k

-- where the price of turn u stands, after those of so many slopes
abbrev pub place_behind : ℕ → ℕ → ℕ
place_behind slopes u = slopes + u

-- and that of the turn at place j of the drivers' order
abbrev pub turn_price_place : ℕ → List ℕ → ℕ → ℕ
turn_price_place slopes orders j = slopes + drivers_turn orders j

-- ---- as statements

-- a list of some of n turns, no more than there are
pub record Taken (n : ℕ) (taken : List ℕ) : Type 0 where
  pub few : length taken ≤ n
  pub inside : All (λ t. t < n) taken

-- it has the turns of a set: whatever is summed up, it comes to the same over both
unfoldable pub TurnsOf : ℕ → List Bool → List ℕ → Type 0
TurnsOf n S taken = (f : ℕ → ℕ) → sum_over f taken ≡ chosen n S f

-- the turns of a list have numbers in a column from a place on, each with a place in a table of payers
pub record SmallNumbers (taken numbers : List ℕ) (at : ℕ) : Type 0 where
  pub few : length taken ≤ most_turns
  pub early : at ≤ 4 * most_turns
  pub turns : (i : ℕ) → i < length taken → get_or taken i 0 < most_turns
  pub within : (i : ℕ) → i < length taken → at + get_or taken i 0 < length numbers
  pub small : (i : ℕ) → i < length taken → number_behind numbers at (get_or taken i 0) ≤ most_turns

-- for each number, how many turns of a list have it
pub record Times (taken : List ℕ) (f : ℕ → ℕ) (times : List ℕ) : Type 0 where
  pub places : length times ≡ payer_places
  pub values : (k : ℕ) → k ≤ most_turns → get_or times k 0 ≡ times_taken taken f k

-- what n turns pay for in the drivers' order: each for the places of one run
pub record PaidRuns (n : ℕ) (orders : List ℕ) : Type 0 where
  pub places : length orders ≡ order_places
  pub few : n ≤ most_turns
  pub rising : (t : ℕ) → t < n → paid_from orders t ≤ paid_to orders t
  pub within : (t : ℕ) → t < n → paid_to orders t ≤ n

-- payers that join and leave, in numbers that can be summed up
pub record Summable (n : ℕ) (joining leaving : List ℕ) : Type 0 where
  pub few : n ≤ most_turns
  pub places : length joining ≡ payer_places
  pub left : (m : ℕ) → m ≤ n → sum_before leaving m ≤ sum_before joining m
  pub small : (m : ℕ) → m ≤ n → payers_present joining leaving m ≤ most_turns
  pub joined : (m : ℕ) → m < n → get_or joining m 0 ≤ most_turns

-- the turns at the first i places of the drivers' order have the payers of their places
pub record Present (orders joining leaving payers : List ℕ) (i : ℕ) : Type 0 where
  pub places : length payers ≡ payer_places
  pub values : (j : ℕ) → j < i → get_or payers (drivers_turn orders j) 0 ≡ payers_present joining leaving (j + 1)

-- the payers of n turns: those of their places in the drivers' order
pub record Payers (n : ℕ) (taken orders payers : List ℕ) : Type 0 where
  pub values : (j : ℕ) → j < n → get_or payers (drivers_turn orders j) 0 ≡ payers_before taken orders (j + 1)

-- no more payers at the first n places than there can be turns
unfoldable pub FewPayers : ℕ → List ℕ → Type 0
FewPayers n payers = (k : ℕ) → k < n → get_or payers k 0 ≤ most_turns

-- the drivers' order has n turns, each at one place
pub record EachOnce (n : ℕ) (orders : List ℕ) : Type 0 where
  pub inside : (j : ℕ) → j < n → drivers_turn orders j < n
  pub apart : (i j : ℕ) → i < j → j < n → drivers_turn orders i ≢ drivers_turn orders j
  pub all : (u : ℕ) → u < n → (j : ℕ) × (j < n) × (drivers_turn orders j ≡ u)

-- the prices at some n places are moved, each by its own payers, and all others are as before
pub record MovedBy (change : ℕ) (payers place : ℕ → ℕ) (n : ℕ) (old new : List ℕ) : Type 0 where
  pub size : length new ≡ length old
  pub done : (i : ℕ) → i < n → get_or new (place i) 0 ≡ moved_price change (payers i) (get_or old (place i) 0)
  pub others : (x : ℕ) → ((i : ℕ) → i < n → place i ≢ x) → get_or new x 0 ≡ get_or old x 0

-- all prices are moved as by any set that has the turns of a list
pub record MovedFor (e : Extent) (cols taken : List ℕ) (change : ℕ) (old new : List ℕ) : Type 0 where
  pub is : (S : List Bool) → TurnsOf e.size.count S taken → new ≡ moved_prices (turns_in e cols) e.slopes S change old
