-- A kind of sheet: what may differ between sheets that are read alike. What is said for every kind K ends in For, as causes_for K (document 01: the sheet; other kinds by requests R-8, R-12, R-14). Assumes nothing.
use Rattle.std.specs.Prelude.{ℕ, ◌*◌, ◌≤◌, List, [], ◌∷◌}
use Rattle.refusal.specs.Number.{bad_counts, too_many_turns, bad_slope, bad_groomer}
use Rattle.wire.specs.Mark.{sheet_mark}
use Rattle.turn.specs.Turn.{row_numbers, Refusals, numbers_of, Numbered}
use Rattle.sheet.specs.declared.kind.Most.{Most}
use Rattle.sheet.specs.declared.kind.Maps.{Maps}
use Rattle.sheet.specs.declared.kind.Kind as declared

-- what opens a sheet, what its header and its maps may be, and the numbers of the refusals that are its own
pub record Kind : Type 0 where
  pub mark : List ℕ
  pub most : Most
  pub maps : Maps
  pub refusals : Refusals

-- a kind as the code has it, by its refusals' numbers
abbrev pub kind_in_numbers : declared.Kind → Kind
kind_in_numbers k = record { mark = k.mark; most = k.most; maps = k.maps; refusals = numbers_of k.refusals }

-- a map with every field of a turn but the driver, which is then none
abbrev pub first_map : ℕ
first_map = 31

-- a map with every field
abbrev pub full_map : ℕ
full_map = 63

-- the most groomers, of which there is at least one
abbrev pub most_groomers : ℕ
most_groomers = 16

-- the most slopes, likewise
abbrev pub most_slopes : ℕ
most_slopes = 120

-- the most turns, of which there may be none; no kind has more
abbrev pub most_turns : ℕ
most_turns = 400

-- a shift's sheet
unfoldable pub shift_sheet : Kind
shift_sheet =
    record {
      mark = sheet_mark;
      most = record { groomers = most_groomers; slopes = most_slopes; turns = most_turns };
      maps = record { first = first_map; full = full_map };
      refusals = record { counts = bad_counts; turns = too_many_turns; slope = bad_slope; groomer = bad_groomer };
    }

-- a kind with another limit on turns, and another number for more
unfoldable pub with_turns : Kind → ℕ → ℕ → Kind
with_turns K turns number =
    record {
      mark = K.mark;
      most = record { groomers = K.most.groomers; slopes = K.most.slopes; turns = turns };
      maps = K.maps;
      refusals = record { counts = K.refusals.counts; turns = number; slope = K.refusals.slope; groomer = K.refusals.groomer };
    }

-- the places that a table needs for every sheet
abbrev pub table_places : ℕ
table_places = row_numbers * most_turns

-- ---- as statements

-- three bytes, none of them 0: past its end a list of bytes reads as 0
pub data ThreeBytes : List ℕ → Type 0 where
  three : {a b c : ℕ} → 1 ≤ a → 1 ≤ b → 1 ≤ c → ThreeBytes (a ∷ b ∷ c ∷ [])

-- a kind that the reader can go by: a mark, counts that a byte holds, no more turns than a table has places for, and numbers above 0
pub record Sound (K : Kind) : Type 0 where
  pub mark : ThreeBytes K.mark
  pub groomers : K.most.groomers ≤ 255
  pub slopes : K.most.slopes ≤ 255
  pub turns : K.most.turns ≤ most_turns
  pub numbers : Numbered K.refusals
