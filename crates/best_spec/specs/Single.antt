-- Which shifts the table is for: no slope has two turns, and no turn names a driver (request R-9). Assumes nothing.
use Rattle.std.specs.Prelude.{Bool, not, ◌&&◌, ℕ, eqb}
use Rattle.lists.specs.Lists.{every}
use Rattle.model.specs.Turns.{Turns, by_slope}

-- no turn of a number below y is on the slope of x
unfoldable pub alone_below : Turns → ℕ → ℕ → Bool
alone_below T x y = every (λ u. not (by_slope T x u)) y

-- turn x is on no slope of a turn with a lower number, and names no driver
unfoldable pub single_turn : Turns → ℕ → Bool
single_turn T x = alone_below T x x && eqb (T.driver x) 0

-- so are all turns
unfoldable pub single_turns : Turns → Bool
single_turns T = every (single_turn T) T.count
