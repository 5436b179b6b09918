-- How the functions hold the list that a choice is made from; for inner functions only (requests P-2 and P-3). Assumes nothing.
use Rattle.std.specs.Prelude.{Bool, List, ◌++◌, ℕ}
use Rattle.model.specs.Choice.{has}
use Rattle.lists.specs.Lists.{keep}

-- all turns of a list, and after them those of a set
unfoldable pub with_chosen : List Bool → List ℕ → List ℕ
with_chosen S ts = ts ++ keep (has S) ts
