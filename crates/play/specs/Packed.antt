-- A standing in one number: its counts and the turn in hand, each in 16 bits of its own. For inner functions only (request R-13). Assumes nothing.
use Rattle.std.specs.Prelude.{ℕ, ◌+◌, ◌*◌}
use Rattle.play_spec.specs.declared.Standing.{Standing}
use Rattle.play_spec.specs.Standing.{no_turn_number}

-- a minute driven over, one stood, and turn 1 in hand; a minute worked is 1
abbrev pub driving_unit : ℕ
driving_unit = 65536

abbrev pub standing_unit : ℕ
standing_unit = 4294967296

abbrev pub turn_unit : ℕ
turn_unit = 281474976710656

-- the counts, and the turn with them
abbrev pub packed_counts : Standing → ℕ
packed_counts s = s.working + s.driving * driving_unit + s.standing * standing_unit

abbrev pub packed : Standing → ℕ
packed s = packed_counts s + s.turn * turn_unit

-- the most that a minute adds
abbrev pub most_added : ℕ
most_added = standing_unit + no_turn_number * turn_unit
