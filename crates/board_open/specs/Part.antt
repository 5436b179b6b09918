-- Where the steps' part of a board lies (document 01: the board). Assumes nothing.
use Rattle.std.specs.Prelude.{ℕ, ◌+◌, ◌*◌, ◌≡◌, List, cond}
use Rattle.std.specs.Borrow.{Bor}
use Rattle.board.specs.Board.{step_size, board_turns, board_steps, steps_place}
use Rattle.board_open.specs.Open.{malformed}
use Rattle.board_open.specs.declared.part.Part.{Part}

-- the place and the length of the steps in a board's own bytes; nothing where the board does not open
unfoldable pub steps_part_at : List ℕ → Part
steps_part_at b = cond (malformed b) (record { start = 0; length = 0 }) (record { start = steps_place (board_turns b); length = step_size * board_steps b })

-- a part of a slice lies in the slice's own memory, from this place of it on: it is no copy, and no other bytes that are the same
abbrev pub LiesAt : Bor (List ℕ) → Bor (List ℕ) → ℕ → Type 0
LiesAt part whole place = (part.ref_ptr.0 ≡ whole.ref_ptr.0) × (part.ref_ptr.1 ≡ whole.ref_ptr.1 + place)
