-- The opening marks: three fixed bytes each (document 01: the sheet, the board; requests R-12, R-14). Assumes nothing.
use Rattle.std.specs.Prelude.{Bool, ◌&&◌, List, [], ◌∷◌, ℕ, eqb, get_or}

-- GRM opens a sheet
abbrev pub sheet_mark : List ℕ
sheet_mark = 0x47 ∷ 0x52 ∷ 0x4D ∷ []

-- GRB opens a board
abbrev pub board_mark : List ℕ
board_mark = 0x47 ∷ 0x52 ∷ 0x42 ∷ []

-- GRC opens a sheet that is kept by column
abbrev pub kept_mark : List ℕ
kept_mark = 0x47 ∷ 0x52 ∷ 0x43 ∷ []

-- GRE opens a charging sheet
abbrev pub charging_mark : List ℕ
charging_mark = 0x47 ∷ 0x52 ∷ 0x45 ∷ []

-- the first three bytes are the mark's
unfoldable pub opens_with : List ℕ → List ℕ → Bool
opens_with mark s = eqb (get_or s 0 0) (get_or mark 0 0) && (eqb (get_or s 1 0) (get_or mark 1 0) && eqb (get_or s 2 0) (get_or mark 2 0))
