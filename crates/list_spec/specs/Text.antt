-- The drivers' listing as characters (document 01: the program slopes; request R-7). Assumes nothing.
use Rattle.std.specs.Prelude.{ℕ, zero, suc, ◌+◌, Bool, List, [], ◌∷◌, ◌++◌}
use Rattle.text.specs.Decimal.{decimal}
use Rattle.model.specs.Turns.{Turns}
use Rattle.list_spec.specs.declared.Sums.{Sums}
use Rattle.list_spec.specs.Round.{round_of}

-- "groomer ", with its space
abbrev pub groomer_word : List ℕ
groomer_word = 103 ∷ 114 ∷ 111 ∷ 111 ∷ 109 ∷ 101 ∷ 114 ∷ 32 ∷ []

-- " slope "
abbrev pub slope_word : List ℕ
slope_word = 32 ∷ 115 ∷ 108 ∷ 111 ∷ 112 ∷ 101 ∷ 32 ∷ []

-- " worth "
abbrev pub worth_word : List ℕ
worth_word = 32 ∷ 119 ∷ 111 ∷ 114 ∷ 116 ∷ 104 ∷ 32 ∷ []

-- "worth ", at the front of the last line
abbrev pub sum_word : List ℕ
sum_word = 119 ∷ 111 ∷ 114 ∷ 116 ∷ 104 ∷ 32 ∷ []

-- " tally "
abbrev pub tally_word : List ℕ
tally_word = 32 ∷ 116 ∷ 97 ∷ 108 ∷ 108 ∷ 121 ∷ 32 ∷ []

-- " ceiling "
abbrev pub ceiling_word : List ℕ
ceiling_word = 32 ∷ 99 ∷ 101 ∷ 105 ∷ 108 ∷ 105 ∷ 110 ∷ 103 ∷ 32 ∷ []

-- what stands between start and end
abbrev pub hyphen : List ℕ
hyphen = 45 ∷ []

-- what ends a line
abbrev pub line_feed : List ℕ
line_feed = 10 ∷ []

-- a word and then a number
unfoldable pub labelled : List ℕ → ℕ → List ℕ
labelled word x = word ++ decimal x

-- two of them, and the end of the line
unfoldable pub two_labelled : List ℕ → ℕ → List ℕ → ℕ → List ℕ
two_labelled word x word' x' = labelled word x ++ (labelled word' x' ++ line_feed)

-- a groomer's heading
unfoldable pub heading_of : ℕ → List ℕ
heading_of h = labelled groomer_word h ++ line_feed

-- a turn's line: start and end, slope, worth
unfoldable pub line_of : Turns → ℕ → List ℕ
line_of T u = decimal (T.start u) ++ (labelled hyphen (T.end u) ++ two_labelled slope_word (T.slope u) worth_word (T.worth u))

-- the lines of a groomer's round, one after another
unfoldable pub lines_of : Turns → List ℕ → List ℕ
lines_of T [] = []
lines_of T (u ∷ us) = line_of T u ++ lines_of T us

-- a groomer's part: its heading, even if it drives nothing, and its round
unfoldable pub groomer_text : Turns → List Bool → ℕ → List ℕ
groomer_text T S h = heading_of h ++ lines_of T (round_of T S h)

-- d groomers, from this number on
unfoldable pub groomers_from : Turns → List Bool → ℕ → ℕ → List ℕ
groomers_from T S zero h = []
groomers_from T S (suc d) h = groomer_text T S h ++ groomers_from T S d (h + 1)

-- the last line: what the board earns, its tally, and its ceiling
unfoldable pub sums_line : Sums → List ℕ
sums_line sums = labelled sum_word sums.worth ++ two_labelled tally_word sums.tally ceiling_word sums.ceiling

-- the listing of some turns, a choice of them and three sums
unfoldable pub listing_of : ℕ → Turns → List Bool → Sums → List ℕ
listing_of groomers T S sums = groomers_from T S groomers 1 ++ sums_line sums

-- ---- the one line in place of a listing where a sheet is refused

-- "refused "
abbrev pub refused_word : List ℕ
refused_word = 114 ∷ 101 ∷ 102 ∷ 117 ∷ 115 ∷ 101 ∷ 100 ∷ 32 ∷ []

-- the word, the number, and the end of the line
unfoldable pub refused_line : ℕ → List ℕ
refused_line k = labelled refused_word k ++ line_feed
