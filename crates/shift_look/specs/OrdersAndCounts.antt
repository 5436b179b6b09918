-- How the functions hold prices, counts and the orders that do not depend on prices; for inner functions only (requests P-1 and P-2). Assumes nothing.
use Rattle.std.specs.Prelude.{◌≡◌, ◌≢◌, ◌↔◌, true, cond, List, ℕ, zero, suc, ◌+◌, ◌-◌, ◌*◌, ◌≤◌, ◌<◌, max, ltb, length, get_or, set}
use Rattle.lists.specs.Lists.{sum_over, below}
use Rattle.turn.specs.Turn.{most_driver}
use Rattle.model.specs.Turns.{Turns}
use Rattle.best_spec.specs.Table.{turn_order}
use Rattle.sheet.specs.Kind.{most_turns, most_slopes}
use Rattle.instance.specs.declared.columns.Size.{Size}
use Rattle.instance.specs.Columns.{column_places, turns_by}
use Rattle.best_table.specs.OrderAndTable.{place_before, entry_places}
use Rattle.limit_spec.specs.Prices.{slope_price, turn_price, pays_turn, paid_by, counts_for, most_price}
use Rattle.shift_look.specs.declared.Extent.{Extent}

-- turns with their drivers for groomers: their order is driver by driver, each driver's from the one that ends last
unfoldable pub by_drivers : Turns → Turns
by_drivers T =
    record { count = T.count; gap = T.gap; slope = T.slope; groomer = T.driver; start = T.start; end = T.end; worth = T.worth; driver = T.driver }

-- all turns with their counts for worths
unfoldable pub counted_turns : Turns → ℕ → List ℕ → Turns
counted_turns T slopes prices =
    record { count = T.count; gap = T.gap; slope = T.slope; groomer = T.groomer; start = T.start; end = T.end; worth = counts_for T slopes prices; driver = T.driver }

-- the turns that some columns hold
abbrev pub turns_in : Extent → List ℕ → Turns
turns_in e cols = turns_by e.size cols

-- five numbers for each turn that a sheet can have
abbrev pub order_places : ℕ
order_places = 5 * most_turns

-- which turn stands at place i of the groomers' order
abbrev pub groomers_turn : List ℕ → ℕ → ℕ
groomers_turn orders i = get_or orders i 0

-- where the set of the turn at place i can go on: the first place after it that is not in its way
abbrev pub groomers_next : List ℕ → ℕ → ℕ
groomers_next orders i = get_or orders (most_turns + i) 0

-- which turn stands at place j of the drivers' order
abbrev pub drivers_turn : List ℕ → ℕ → ℕ
drivers_turn orders j = get_or orders (2 * most_turns + j) 0

-- the first place of the drivers' order whose price turn t pays
abbrev pub paid_from : List ℕ → ℕ → ℕ
paid_from orders t = get_or orders (3 * most_turns + t) 0

-- the place after the last of them
abbrev pub paid_to : List ℕ → ℕ → ℕ
paid_to orders t = get_or orders (4 * most_turns + t) 0

-- the driver of the turn at place j of the drivers' order
unfoldable pub place_driver : Turns → ℕ → ℕ
place_driver T j = T.driver (get_or (turn_order (by_drivers T)) j 0)

-- what is paid at place j of the drivers' order: the price of the turn there, if it names a driver
unfoldable pub place_price : Turns → ℕ → List ℕ → ℕ → ℕ
place_price T slopes prices j = cond (ltb 0 (place_driver T j)) (turn_price slopes prices (get_or (turn_order (by_drivers T)) j 0)) 0

-- what is paid at the first n places
unfoldable pub places_sum : Turns → ℕ → List ℕ → ℕ → ℕ
places_sum T slopes prices n = sum_over (place_price T slopes prices) (below n)

-- the prices of the first n slopes
unfoldable pub slopes_sum : List ℕ → ℕ → ℕ
slopes_sum prices n = sum_over (λ k. slope_price prices (k + 1)) (below n)

-- the orders with turn t at place i of the drivers' order, and its run
abbrev pub with_run : List ℕ → ℕ → ℕ → ℕ → ℕ → List ℕ
with_run orders i t from to = set (set (set orders (2 * most_turns + i) t) (3 * most_turns + t) from) (4 * most_turns + t) to

-- what is left of turn t's worth, of turns that pay so much
unfoldable pub left_after : Turns → List ℕ → ℕ → ℕ
left_after T paid t = T.worth t - get_or paid t 0

-- the greatest driver that one of the first i turns names, 0 where none does
unfoldable pub greatest_driver : Turns → ℕ → ℕ
greatest_driver T zero = 0
greatest_driver T (suc i) = max (T.driver i) (greatest_driver T i)

-- ---- as statements

-- drivers have their numbers
pub record Driven (p : Size) (cols : List ℕ) : Type 0 where
  pub drivers : (t : ℕ) → t < p.count → (turns_by p cols).driver t ≤ most_driver

-- the first i groomers of some columns are the drivers, and the rest is as it was
pub record DriversPut (cols room : List ℕ) (i : ℕ) : Type 0 where
  pub places : length room ≡ length cols
  pub drivers : (k : ℕ) → k < i → get_or room (most_turns + k) 0 ≡ get_or cols (5 * most_turns + k) 0
  pub front : (k : ℕ) → k < most_turns → get_or room k 0 ≡ get_or cols k 0
  pub back : (k : ℕ) → 2 * most_turns ≤ k → get_or room k 0 ≡ get_or cols k 0

-- the turns at two places of an order have one groomer and one end
pub record OneRun (D : Turns) (k i : ℕ) : Type 0 where
  pub groomer : D.groomer (get_or (turn_order D) k 0) ≡ D.groomer (get_or (turn_order D) i 0)
  pub end : D.end (get_or (turn_order D) k 0) ≡ D.end (get_or (turn_order D) i 0)

-- the first place of an order whose turn has the groomer and the end of the one at place i
pub record RunStart (D : Turns) (i from : ℕ) : Type 0 where
  pub upto : from ≤ i
  pub same : (k : ℕ) → from ≤ k → k ≤ i → OneRun D k i
  pub first : (k : ℕ) → k < from → OneRun D k i → ⊥

-- that of the place before, if there is one
unfoldable pub RunBefore : Turns → ℕ → ℕ → Type 0
RunBefore D i from = 0 < i → RunStart D (i - 1) from

-- turn t pays the price of u, of turns with drivers in the groomers' place: they have one, u ends no later, and not the gap before the start of t
pub record PaysAs (D : Turns) (u t : ℕ) : Type 0 where
  pub named : D.groomer t ≢ 0
  pub same : D.groomer u ≡ D.groomer t
  pub no_later : D.end u ≤ D.end t
  pub near : D.start t < D.end u + D.gap

-- the turn at place i of an order pays for those from one place to before another, and for no others; one with groomer 0 has its run at the front
pub record PlaceRun (D : Turns) (i from to : ℕ) : Type 0 where
  pub none : D.groomer (get_or (turn_order D) i 0) ≡ 0 → to ≡ 0
  pub rising : from ≤ to
  pub within : to ≤ D.count
  pub pays : (j : ℕ) → j < D.count → PaysAs D (get_or (turn_order D) j 0) (get_or (turn_order D) i 0) ↔ ((from ≤ j) × (j < to))

-- for the first i places of the drivers' order, the turns there and what they pay for; what stands before is as it was
pub record PlaceRunsTo (D : Turns) (old orders : List ℕ) (i : ℕ) : Type 0 where
  pub places : length orders ≡ order_places
  pub front : (k : ℕ) → k < 2 * most_turns → get_or orders k 0 ≡ get_or old k 0
  pub turns : (k : ℕ) → k < i → drivers_turn orders k ≡ get_or (turn_order D) k 0
  pub runs : (k : ℕ) → k < i → PlaceRun D k (paid_from orders (get_or (turn_order D) k 0)) (paid_to orders (get_or (turn_order D) k 0))

-- the sums of what is paid at the first 0, 1, .. i places
pub record SumsTo (T : Turns) (slopes : ℕ) (prices sums : List ℕ) (i : ℕ) : Type 0 where
  pub places : length sums ≡ entry_places
  pub values : (k : ℕ) → k ≤ i → get_or sums k 0 ≡ places_sum T slopes prices k
  pub most : (k : ℕ) → k ≤ i → get_or sums k 0 ≤ k * most_price

-- of n places of the drivers' order those before place r have turns that name no driver, the others do
pub record NamedFrom (T : Turns) (n r : ℕ) : Type 0 where
  pub within : r ≤ n
  pub none : (j : ℕ) → j < r → place_driver T j ≡ 0
  pub named : (j : ℕ) → r ≤ j → j < n → 0 < place_driver T j

-- the first k of n prices are summed up
pub record SummedTo (want : ℕ → ℕ) (n k sum_over : ℕ) : Type 0 where
  pub within : k ≤ n
  pub is : sum_over ≡ want k
  pub most : sum_over ≤ k * most_price

-- the first i turns have their numbers, in a list for all turns that a sheet can have
pub record NumbersTo (number : ℕ → ℕ) (numbers : List ℕ) (i : ℕ) : Type 0 where
  pub places : length numbers ≡ most_turns
  pub values : (t : ℕ) → t < i → get_or numbers t 0 ≡ number t

-- the first i turns have what they pay
abbrev pub PaymentsTo : Turns → ℕ → List ℕ → List ℕ → ℕ → Type 0
PaymentsTo T slopes prices paid i = NumbersTo (paid_by T slopes prices) paid i

-- the first i turns have their counts
abbrev pub CountsTo : Turns → ℕ → List ℕ → List ℕ → ℕ → Type 0
CountsTo T slopes prices counts i = NumbersTo (counts_for T slopes prices) counts i

-- a turn pays the prices of the turns from one place of the drivers' order to before another, and no others; one without a driver has its run at the front
pub record PaidRun (T : Turns) (t from to : ℕ) : Type 0 where
  pub none : T.driver t ≡ 0 → to ≡ 0
  pub rising : from ≤ to
  pub within : to ≤ T.count
  pub pays : (j : ℕ) → j < T.count → (pays_turn T (get_or (turn_order (by_drivers T)) j 0) t ≡ true) ↔ ((from ≤ j) × (j < to))

-- what does not depend on prices: the groomers' order and where its sets go on, the drivers' order and what each turn pays for in it
pub record Ordered (T : Turns) (orders : List ℕ) : Type 0 where
  pub places : length orders ≡ order_places
  pub groomers : (i : ℕ) → i < T.count → groomers_turn orders i ≡ get_or (turn_order T) i 0
  pub before : (i : ℕ) → i < T.count → groomers_next orders i ≡ place_before T i
  pub drivers : (j : ℕ) → j < T.count → drivers_turn orders j ≡ get_or (turn_order (by_drivers T)) j 0
  pub runs : (t : ℕ) → t < T.count → PaidRun T t (paid_from orders t) (paid_to orders t)

-- turns on slopes from 1 to the last, and a price for each slope and each turn
pub record Priced (e : Extent) (cols : List ℕ) (prices : List ℕ) : Type 0 where
  pub places : length cols ≡ column_places
  pub few : e.size.count ≤ most_turns
  pub few_slopes : e.slopes ≤ most_slopes
  pub numbers : (t : ℕ) → t < e.size.count → (1 ≤ (turns_in e cols).slope t) × ((turns_in e cols).slope t ≤ e.slopes)
  pub drivers : (t : ℕ) → t < e.size.count → (turns_in e cols).driver t ≤ most_driver
  pub list : length prices ≡ e.slopes + e.size.count
