-- The worked shift and the other inputs of the proved cases (document 01: a shift, whole; requests R-1, R-2, R-5, R-7). Assumes nothing.
use Rattle.std.specs.Prelude.{ℕ, List, [], ◌∷◌, ◌++◌}

-- its table: slope, groomer, start, length, worth, driver
abbrev pub shift_table : List ℕ
shift_table = 1 ∷ 1 ∷ 0 ∷ 60 ∷ 100 ∷ 0 ∷ 2 ∷ 1 ∷ 30 ∷ 60 ∷ 150 ∷ 0 ∷ 1 ∷ 2 ∷ 0 ∷ 120 ∷ 80 ∷ 0 ∷ 3 ∷ 2 ∷ 120 ∷ 60 ∷ 90 ∷ 0 ∷ []

-- the sheet that is written for it: its turns 0, 2, 1, 3
abbrev pub shift_written : List ℕ
shift_written = 0x47 ∷ 0x52 ∷ 0x4D ∷ 0x02 ∷ 0x03 ∷ 0x00 ∷ 0x04 ∷ 0x1F ∷ 0x01 ∷ 0x01 ∷ 0x00 ∷ 0x00 ∷ 0x00 ∷ 0x3C ∷ 0x00 ∷ 0x64 ∷ 0x1A ∷ 0x02 ∷ 0x00 ∷ 0x78 ∷ 0x00 ∷ 0x50 ∷ 0x1F ∷ 0x02 ∷ 0x01 ∷ 0x00 ∷ 0x1E ∷ 0x00 ∷ 0x3C ∷ 0x00 ∷ 0x96 ∷ 0x17 ∷ 0x03 ∷ 0x02 ∷ 0x00 ∷ 0x78 ∷ 0x00 ∷ 0x5A ∷ []

-- the steps' bytes in it
abbrev pub shift_steps : List ℕ
shift_steps = 0x00 ∷ 0x00 ∷ 0x00 ∷ 0x64 ∷ 0x00 ∷ 0x01 ∷ 0x00 ∷ 0x32 ∷ 0x00 ∷ 0x03 ∷ 0x00 ∷ 0x5A ∷ []

-- its board with the last two steps exchanged: turn 0 for 100, turn 3 for 90, turn 1 for 50
abbrev pub steps_exchanged : List ℕ
steps_exchanged = 0x47 ∷ 0x52 ∷ 0x42 ∷ 0x00 ∷ 0x04 ∷ 0x00 ∷ 0x03 ∷ 0x00 ∷ 0x00 ∷ 0x00 ∷ 0xF0 ∷ 0x00 ∷ 0x00 ∷ 0x00 ∷ 0xF0 ∷ 0x0A ∷ 0x00 ∷ 0x00 ∷ 0x00 ∷ 0x64 ∷ 0x00 ∷ 0x03 ∷ 0x00 ∷ 0x5A ∷ 0x00 ∷ 0x01 ∷ 0x00 ∷ 0x32 ∷ []

-- the same steps with map 09 (turns 0 and 3) and worth 190
abbrev pub wrong_worth : List ℕ
wrong_worth = 0x47 ∷ 0x52 ∷ 0x42 ∷ 0x00 ∷ 0x04 ∷ 0x00 ∷ 0x03 ∷ 0x00 ∷ 0x00 ∷ 0x00 ∷ 0xF0 ∷ 0x00 ∷ 0x00 ∷ 0x00 ∷ 0xBE ∷ 0x09 ∷ shift_steps

-- the same steps with map 0A (turns 1 and 3) and worth 240: since R-2 this is the shift's own board
abbrev pub one_and_three : List ℕ
one_and_three = 0x47 ∷ 0x52 ∷ 0x42 ∷ 0x00 ∷ 0x04 ∷ 0x00 ∷ 0x03 ∷ 0x00 ∷ 0x00 ∷ 0x00 ∷ 0xF0 ∷ 0x00 ∷ 0x00 ∷ 0x00 ∷ 0xF0 ∷ 0x0A ∷ shift_steps

-- a header alone, of two groomers and three slopes, with this number of turns in two bytes
abbrev pub header : ℕ → ℕ → List ℕ
header high low = 0x47 ∷ 0x52 ∷ 0x4D ∷ 0x02 ∷ 0x03 ∷ high ∷ low ∷ []

-- the board of no turns
abbrev pub empty_board : List ℕ
empty_board = 0x47 ∷ 0x52 ∷ 0x42 ∷ 0x00 ∷ 0x00 ∷ 0x00 ∷ 0x00 ∷ 0x00 ∷ 0x00 ∷ 0x00 ∷ 0x00 ∷ 0x00 ∷ 0x00 ∷ 0x00 ∷ 0x00 ∷ []

-- one turn, from minute 900 on: its length and its worth, the latter in two bytes
abbrev pub late_turn : ℕ → ℕ → ℕ → List ℕ
late_turn len high low = 0x47 ∷ 0x52 ∷ 0x4D ∷ 0x01 ∷ 0x01 ∷ 0x00 ∷ 0x01 ∷ 0x1F ∷ 0x01 ∷ 0x01 ∷ 0x03 ∷ 0x84 ∷ 0x00 ∷ len ∷ high ∷ low ∷ []

-- the shift's listing as characters, a list for each line
abbrev pub shift_listing : List ℕ
shift_listing =
    (103 ∷ 114 ∷ 111 ∷ 111 ∷ 109 ∷ 101 ∷ 114 ∷ 32 ∷ 49 ∷ 10 ∷ [])
    ++ ((51 ∷ 48 ∷ 45 ∷ 57 ∷ 48 ∷ 32 ∷ 115 ∷ 108 ∷ 111 ∷ 112 ∷ 101 ∷ 32 ∷ 50 ∷ 32 ∷ 119 ∷ 111 ∷ 114 ∷ 116 ∷ 104 ∷ 32 ∷ 49 ∷ 53 ∷ 48 ∷ 10 ∷ [])
    ++ ((103 ∷ 114 ∷ 111 ∷ 111 ∷ 109 ∷ 101 ∷ 114 ∷ 32 ∷ 50 ∷ 10 ∷ [])
    ++ ((49 ∷ 50 ∷ 48 ∷ 45 ∷ 49 ∷ 56 ∷ 48 ∷ 32 ∷ 115 ∷ 108 ∷ 111 ∷ 112 ∷ 101 ∷ 32 ∷ 51 ∷ 32 ∷ 119 ∷ 111 ∷ 114 ∷ 116 ∷ 104 ∷ 32 ∷ 57 ∷ 48 ∷ 10 ∷ [])
    ++ (119 ∷ 111 ∷ 114 ∷ 116 ∷ 104 ∷ 32 ∷ 50 ∷ 52 ∷ 48 ∷ 32 ∷ 116 ∷ 97 ∷ 108 ∷ 108 ∷ 121 ∷ 32 ∷ 50 ∷ 52 ∷ 48 ∷ 32 ∷ 99 ∷ 101 ∷ 105 ∷ 108 ∷ 105 ∷ 110 ∷ 103 ∷ 32 ∷ 51 ∷ 52 ∷ 48 ∷ 10 ∷ []))))

-- turns (slope, groomer, start, length, worth): (1,1,0,60,100) (2,1,30,60,150) (1,2,0,120,70)
abbrev pub one_to_fill : List ℕ
one_to_fill = 0x47 ∷ 0x52 ∷ 0x4D ∷ 0x02 ∷ 0x02 ∷ 0x00 ∷ 0x03 ∷ 0x1F ∷ 0x01 ∷ 0x01 ∷ 0x00 ∷ 0x00 ∷ 0x00 ∷ 0x3C ∷ 0x00 ∷ 0x64 ∷ 0x15 ∷ 0x02 ∷ 0x00 ∷ 0x1E ∷ 0x00 ∷ 0x96 ∷ 0x1F ∷ 0x01 ∷ 0x02 ∷ 0x00 ∷ 0x00 ∷ 0x00 ∷ 0x78 ∷ 0x00 ∷ 0x46 ∷ []
