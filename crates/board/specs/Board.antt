-- The board's bytes (document 01: the board). Assumes nothing.
use Rattle.std.specs.Prelude.{ℕ, ◌+◌, ◌*◌, List, [], ◌∷◌, ◌++◌, Bool, length, take, drop}
use Rattle.wire.specs.Number.{bytes_of, value_at}
use Rattle.wire.specs.Mark.{board_mark}
use Rattle.lists.specs.Lists.{tab}
use Rattle.model.specs.Steps.{Step}
use Rattle.choice_map.specs.Choice.{map_bytes, choice_in, map_of}

-- the header: after the three bytes of the mark the number of turns, two bytes
abbrev pub turns_place : ℕ
turns_place = 3

-- then the number of steps, two bytes
abbrev pub step_count_place : ℕ
step_count_place = turns_place + 2

-- then the tally, four bytes
abbrev pub tally_place : ℕ
tally_place = step_count_place + 2

-- then the worth, four bytes
abbrev pub worth_place : ℕ
worth_place = tally_place + 4

-- the bytes before the choice map
abbrev pub board_header : ℕ
board_header = worth_place + 4

-- a step's bytes: turn number and amount, two bytes each
abbrev pub step_size : ℕ
step_size = 2 + 2

-- n, the number of the sheet's turns
abbrev pub board_turns : List ℕ → ℕ
board_turns b = value_at b turns_place 2

-- m, the number of steps
abbrev pub board_steps : List ℕ → ℕ
board_steps b = value_at b step_count_place 2

-- the tally as it is written
abbrev pub board_tally : List ℕ → ℕ
board_tally b = value_at b tally_place 4

-- the worth as it is written
abbrev pub board_worth : List ℕ → ℕ
board_worth b = value_at b worth_place 4

-- where the steps start: after the header and the choice map
abbrev pub steps_place : ℕ → ℕ
steps_place n = board_header + map_bytes n

-- the exact length of a board of n turns and m steps
abbrev pub board_length : ℕ → ℕ → ℕ
board_length n m = steps_place n + step_size * m

-- the choice map's bytes in a board
unfoldable pub board_map : List ℕ → List ℕ
board_map b = take (map_bytes (board_turns b)) (drop board_header b)

-- the choice that a board holds
unfoldable pub board_choice : List ℕ → List Bool
board_choice b = choice_in (board_turns b) (board_map b)

-- step i of such bytes
abbrev pub step_at : List ℕ → ℕ → Step
step_at bytes i = record { turn = value_at bytes (step_size * i) 2; amount = value_at bytes (step_size * i + 2) 2 }

-- the first m steps of such bytes
unfoldable pub steps_in : ℕ → List ℕ → List Step
steps_in m bytes = tab m (step_at bytes)

-- the steps that stand in a board's bytes
unfoldable pub written_steps : List ℕ → List Step
written_steps b = steps_in (board_steps b) (drop (steps_place (board_turns b)) b)

-- steps as bytes, one after another
unfoldable pub step_bytes : List Step → List ℕ
step_bytes [] = []
step_bytes (x ∷ xs) = (bytes_of 2 x.turn ++ bytes_of 2 x.amount) ++ step_bytes xs

-- the mark, the number of turns, the number of steps
unfoldable pub count_bytes : ℕ → ℕ → List ℕ
count_bytes n m = board_mark ++ (bytes_of 2 n ++ bytes_of 2 m)

-- all bytes of the header
unfoldable pub head_bytes : ℕ → ℕ → ℕ → ℕ → List ℕ
head_bytes n m tally worth = count_bytes n m ++ (bytes_of 4 tally ++ bytes_of 4 worth)

-- the board of a choice of n turns, steps and two sums
unfoldable pub board_of : List Bool → List Step → ℕ → ℕ → List ℕ
board_of S xs tally worth =
    board_mark ++ (bytes_of 2 (length S) ++ (bytes_of 2 (length xs) ++ (bytes_of 4 tally ++ (bytes_of 4 worth ++ (map_of S ++ step_bytes xs)))))
