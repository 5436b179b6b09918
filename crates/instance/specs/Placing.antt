-- A problem's turns by end, in columns of their own: which turn stands at a place, and at which place a turn stands (no rule of its own). For inner functions only. Assumes nothing.
use Rattle.std.specs.Prelude.{◌≡◌, ◌≢◌, cond, List, ℕ, ◌≤◌, ◌<◌, ltb, length, get_or}
use Rattle.lists.specs.Order.{order_by}
use Rattle.model.specs.Turns.{Turns}
use Rattle.instance.specs.declared.columns.Size.{Size}
use Rattle.instance.specs.Columns.{row_in, turns_by, Held}

-- all turns by end, and those of one end by number
unfoldable pub by_end : Turns → List ℕ
by_end T = order_by T.end T.count

-- the turn at a place of an order
abbrev pub turn_at : List ℕ → ℕ → ℕ
turn_at order i = get_or order i 0

-- the place of a turn, by a list of places; what is no turn is after the last one
unfoldable pub place_at : List ℕ → ℕ → ℕ
place_at places t = cond (ltb t (length places)) (get_or places t 0) (length places)

-- ---- as statements

-- at each of the first i places is the row of the turn that stands there
unfoldable pub RowsBy : List ℕ → List ℕ → List ℕ → ℕ → Type 0
RowsBy cols order own i = (k : ℕ) → k < i → row_in own k ≡ row_in cols (turn_at order k)

-- no turn ends before one that stands before it
pub record EndsRise (T : Turns) : Type 0 where
  pub rise : (i k : ℕ) → i ≤ k → k < T.count → T.end i ≤ T.end k

-- the order is that by end, and the rows stand in it
pub record PutByEnd (p : Size) (cols order own : List ℕ) : Type 0 where
  pub ordered : order ≡ by_end (turns_by p cols)
  pub rows : RowsBy cols order own p.count
  pub held : Held p own
  pub rising : EndsRise (turns_by p own)

-- the numbers of a list are below its length, and none stands twice
pub record Permutation (order : List ℕ) : Type 0 where
  pub inside : (i : ℕ) → i < length order → turn_at order i < length order
  pub once : (i k : ℕ) → i < k → k < length order → turn_at order i ≢ turn_at order k

-- the turns at the first i places have these places
unfoldable pub PlacesTo : List ℕ → List ℕ → ℕ → Type 0
PlacesTo order places i = (k : ℕ) → k < i → get_or places (turn_at order k) 0 ≡ k

-- each turn has its place
pub record PlacesOfAll (order places : List ℕ) : Type 0 where
  pub many : length places ≡ length order
  pub at : PlacesTo order places (length order)
