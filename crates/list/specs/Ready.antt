-- What the listing's functions ask of what they are lent. For inner functions only (document 01: the program slopes). Assumes nothing.
use Rattle.std.specs.Prelude.{ℕ, List}
use Rattle.choice_map.specs.Choice.{choice_in, Clean}
use Rattle.instance.specs.declared.columns.Size.{Size}
use Rattle.instance.specs.Columns.{turns_by, Held}
use Rattle.list_spec.specs.Round.{StartsApart}

-- columns that hold a problem, and a map as a board holds it, which chooses no two turns of a groomer with one start
pub record Ready (p : Size) (cols map : List ℕ) : Type 0 where
  pub held : Held p cols
  pub clean : Clean p.count map
  pub apart : StartsApart (turns_by p cols) (choice_in p.count map)
