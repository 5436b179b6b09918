-- A board's written steps by place: each with the place of its turn for the turn's number (no rule of its own). For inner functions only. Assumes nothing.
use Rattle.std.specs.Prelude.{ℕ, List}
use Rattle.model.specs.Steps.{Step}
use Rattle.board.specs.Board.{steps_in}
use Rattle.model.specs.Relabelling.{relabel_all}
use Rattle.instance.specs.Placing.{place_at}

-- m written steps, read in this way
unfoldable pub moves_in : List ℕ → ℕ → List ℕ → List Step
moves_in places m bytes = relabel_all (place_at places) (steps_in m bytes)
