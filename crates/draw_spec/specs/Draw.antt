-- Numbers drawn one after another from a seed, and the turns that they make (request R-11). Assumes nothing.
use Rattle.std.specs.Prelude.{ℕ, zero, suc, ◌+◌, ◌*◌, ◌%◌, ◌≤◌, ◌≡◌, cond, List, [], ◌∷◌, ltb}
use Rattle.turn.specs.declared.Turn.{Turn}
use Rattle.turn.specs.declared.Counts.{Counts}
use Rattle.turn.specs.Turn.{rows, most_worth}

-- ---- the generator of Park and Miller

-- what a draw is multiplied by
abbrev pub draw_factor : ℕ
draw_factor = 16807

-- the modulus: a prime, 2 to the 31st less 1
abbrev pub draw_modulus : ℕ
draw_modulus = 2147483647

-- the greatest number that is drawn
abbrev pub most_draw : ℕ
most_draw = 2147483646

-- the draw after x
unfoldable pub next_draw : ℕ → ℕ
next_draw x = draw_factor * x % draw_modulus

-- draw number k from a seed on; number 0 is the seed, which is no draw
unfoldable pub draw_number : ℕ → ℕ → ℕ
draw_number zero x = x
draw_number (suc k) x = draw_number k (next_draw x)

-- ---- a turn

-- the minutes at which a turn may start: 0 to 840
abbrev pub drawn_starts : ℕ
drawn_starts = 841

-- a length goes by the place of its draw among a hundred
abbrev pub length_places : ℕ
length_places = 100

-- of a hundred places forty have 30 minutes, then thirty 45, twenty 60 and ten 90
unfoldable pub drawn_length : ℕ → ℕ
drawn_length p = cond (ltb p 40) 30 (cond (ltb p 70) 45 (cond (ltb p 90) 60 90))

-- a number from 1 to a count
abbrev pub from_one : ℕ → ℕ → ℕ
from_one count d = 1 + d % count

-- the turn of five draws, one for each value but the driver, who is none
unfoldable pub turn_drawn : Counts → ℕ → ℕ → ℕ → ℕ → ℕ → Turn
turn_drawn counts slope groomer start minutes worth =
    record {
      slope = from_one counts.slopes slope;
      groomer = from_one counts.groomers groomer;
      start = start % drawn_starts;
      length = drawn_length (minutes % length_places);
      worth = from_one most_worth worth;
      driver = 0;
    }

-- how many draws a turn uses
abbrev pub turn_draws : ℕ
turn_draws = 5

-- the turn of the five draws after x
unfoldable pub turn_after : Counts → ℕ → Turn
turn_after counts x = turn_drawn counts (draw_number 1 x) (draw_number 2 x) (draw_number 3 x) (draw_number 4 x) (draw_number 5 x)

-- n turns one after another, each from the draws after those of the one before
unfoldable pub drawn_turns : ℕ → Counts → ℕ → List Turn
drawn_turns zero counts x = []
drawn_turns (suc n) counts x = turn_after counts x ∷ drawn_turns n counts (draw_number turn_draws x)

-- their table, in the order in which they were drawn
abbrev pub drawn_table : ℕ → Counts → ℕ → List ℕ
drawn_table n counts x = rows (drawn_turns n counts x)

-- ---- as statements

-- a number that can be drawn, and be a seed
pub record Drawable (x : ℕ) : Type 0 where
  pub from : 1 ≤ x
  pub to : x ≤ most_draw

-- the minutes that a place among a hundred gives
pub data LengthAt : ℕ → ℕ → Type 0 where
  half_hour : {p : ℕ} → p ≤ 39 → LengthAt p 30
  three_quarters : {p : ℕ} → 40 ≤ p → p ≤ 69 → LengthAt p 45
  whole_hour : {p : ℕ} → 70 ≤ p → p ≤ 89 → LengthAt p 60
  longest : {p : ℕ} → 90 ≤ p → LengthAt p 90

-- which draw gives which value of turn k of a seed: turns are counted from 0, draws from 1, and the seed is no draw
pub record FieldsDrawn (counts : Counts) (seed k : ℕ) (t : Turn) : Type 0 where
  -- the slope goes by the first of the turn's five draws
  pub slope : t.slope ≡ 1 + draw_number (5 * k + 1) seed % counts.slopes
  -- the groomer by the second
  pub groomer : t.groomer ≡ 1 + draw_number (5 * k + 2) seed % counts.groomers
  -- the start by the third
  pub start : t.start ≡ draw_number (5 * k + 3) seed % 841
  -- the length by the fourth
  pub length : LengthAt (draw_number (5 * k + 4) seed % 100) t.length
  -- the worth by the fifth
  pub worth : t.worth ≡ 1 + draw_number (5 * k + 5) seed % 60000
  -- the driver by none
  pub driver : t.driver ≡ 0
