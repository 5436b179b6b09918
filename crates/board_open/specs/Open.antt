-- Opening a board: what its own bytes must be, and where its steps stand (document 01: the board, refusal 12). Assumes nothing.
use Rattle.std.specs.Prelude.{ℕ, ◌*◌, ◌≤◌, ◌<◌, ◌≡◌, List, [], ◌∷◌, Bool, true, false, not, cond, ◌||◌, ◌≢◌, length, take, drop, ltb, eqb}
use Rattle.refusal.specs.Number.{malformed_board}
use Rattle.refusal.specs.Cause.{◌when◌, first_of, FirstAmong}
use Rattle.wire.specs.Mark.{board_mark, opens_with}
use Rattle.choice_map.specs.Choice.{map_bytes, chosen_in, clear_past}
use Rattle.board.specs.Board.{board_header, step_size, board_turns, board_steps, steps_place, board_length, board_map}

-- more steps than turns, a length that is not the one these two numbers give, or a map bit set after that of the last turn
unfoldable pub bad_sizes : List ℕ → Bool
bad_sizes b =
    ltb (board_turns b) (board_steps b)
    || (not (eqb (length b) (board_length (board_turns b) (board_steps b))) || not (clear_past (board_turns b) (board_map b)))

-- fewer bytes than a header, another mark, or sizes that do not fit together
unfoldable pub malformed : List ℕ → Bool
malformed b = ltb (length b) board_header || (not (opens_with board_mark b) || bad_sizes b)

-- opening gives 12 or 0
unfoldable pub open_of : List ℕ → ℕ
open_of b = first_of (malformed_board when malformed b ∷ [])

-- the steps' stretch of the board, empty where the board does not open, and where it has no steps
unfoldable pub steps_part : List ℕ → List ℕ
steps_part b = cond (malformed b) [] (take (step_size * board_steps b) (drop (steps_place (board_turns b)) b))

-- ---- as statements

-- these bytes are a board, of n turns and m steps
pub record WellFormed (b : List ℕ) (n m : ℕ) : Type 0 where
  pub header : board_header ≤ length b
  pub mark : take 3 b ≡ board_mark
  pub turns : board_turns b ≡ n
  pub steps : board_steps b ≡ m
  pub steps_fit : m ≤ n
  pub exact : length b ≡ board_length n m
  pub clear : (t : ℕ) → n ≤ t → t < 8 * map_bytes n → chosen_in (board_map b) t ≡ false

-- a cause to refuse b as a board is there: its number, and its place in the order
pub data OpenCause (b : List ℕ) : ℕ → ℕ → Type 0 where
  short_header : length b < board_header → OpenCause b malformed_board 0
  other_mark : take 3 b ≢ board_mark → OpenCause b malformed_board 1
  more_steps : board_turns b < board_steps b → OpenCause b malformed_board 2
  other_length : length b ≢ board_length (board_turns b) (board_steps b) → OpenCause b malformed_board 3
  bit_past : (t : ℕ) → board_turns b ≤ t → t < 8 * map_bytes (board_turns b) → chosen_in (board_map b) t ≡ true → OpenCause b malformed_board 4

-- the first cause to refuse b as a board has number k
abbrev pub FirstOpenCause : List ℕ → ℕ → Type 0
FirstOpenCause b k = FirstAmong (OpenCause b) k
