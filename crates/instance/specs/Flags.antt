-- A flag for each number of a slope: whether one of some turns is on it (no rule of its own). For inner functions only. Assumes nothing.
use Rattle.std.specs.Prelude.{◌≡◌, Bool, not, ◌&&◌, List, ℕ, ◌<◌, eqb, length, get_or}
use Rattle.lists.specs.Lists.{every}
use Rattle.model.specs.Turns.{Turns}
use Rattle.instance.specs.Columns.{slope_places}

-- a slope's flag is clear
unfoldable pub clear_at : List ℕ → ℕ → Bool
clear_at flags m = eqb (get_or flags m 0) 0

-- ---- as statements

-- a slope's flag is clear exactly where, of the turns below x that are meant, none is on it
pub record Flagged (T : Turns) (meant : ℕ → Bool) (x : ℕ) (flags : List ℕ) : Type 0 where
  pub places : length flags ≡ slope_places
  pub clear : (m : ℕ) → m < slope_places → clear_at flags m ≡ every (λ u. not (meant u && eqb m (T.slope u))) x
