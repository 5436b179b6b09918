-- What is asked of any bytes as a board: how many turns are chosen, and whether one is (document 01: the board). Assumes nothing.
use Rattle.std.specs.Prelude.{ℕ, List, Bool, not, cond, ◌&&◌, ltb}
use Rattle.refusal.specs.Number.{malformed_board}
use Rattle.board_open.specs.declared.opening.CountAnswer.{CountAnswer}
use Rattle.choice_map.specs.Choice.{chosen_in, ones_in}
use Rattle.board.specs.Board.{board_turns, board_map}
use Rattle.board_open.specs.Open.{malformed}

-- an answer: a refusal, a number of turns
abbrev pub counted : ℕ → ℕ → CountAnswer
counted refusal turns = record { refusal = refusal; turns = turns }

-- the number of chosen turns: the ones of the board's map; 12 and no turns where the board does not open
unfoldable pub count_of : List ℕ → CountAnswer
count_of b = cond (malformed b) (counted malformed_board 0) (counted 0 (ones_in (board_map b)))

-- turn t is chosen: the board opens, it has such a turn, and that turn's bit stands
unfoldable pub turn_chosen : List ℕ → ℕ → Bool
turn_chosen b t = not (malformed b) && (ltb t (board_turns b) && chosen_in (board_map b) t)
