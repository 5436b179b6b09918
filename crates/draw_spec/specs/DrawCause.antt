-- Where each cause to refuse drawing a sheet stands, as statements (request R-11). Assumes nothing.
use Rattle.std.specs.Prelude.{ℕ, ◌<◌, length}
use Rattle.refusal.specs.Number.{bad_seed, bad_counts, too_many_turns}
use Rattle.refusal.specs.Cause.{FirstAmong}
use Rattle.turn.specs.declared.Counts.{Counts}
use Rattle.sheet.specs.Kind.{most_groomers, most_slopes, most_turns}
use Rattle.sheet.specs.Accepted.{Outside}
use Rattle.draw_spec.specs.Draw.{most_draw}
use Rattle.draw_spec.specs.DrawnSheet.{drawn_sheet}
use Rattle.refusal.specs.Words.{ThenRoom}

-- a cause to refuse a seed, or counts and a number of turns, is there: its number, and its place in the order
pub data SeedCause (seed : ℕ) (counts : Counts) (turns : ℕ) : ℕ → ℕ → Type 0 where
  bad_seed_cause : Outside seed most_draw → SeedCause seed counts turns bad_seed 0
  groomer_count : Outside counts.groomers most_groomers → SeedCause seed counts turns bad_counts 1
  slope_count : Outside counts.slopes most_slopes → SeedCause seed counts turns bad_counts 2
  turn_count_cause : most_turns < turns → SeedCause seed counts turns too_many_turns 3

-- and after them all that so many lent bytes are too few for the sheet
abbrev pub DrawCause : ℕ → Counts → ℕ → ℕ → ℕ → ℕ → Type 0
DrawCause seed counts turns = ThenRoom (SeedCause seed counts turns) 4 (length (drawn_sheet seed counts turns))

-- the first of them has number k
abbrev pub FirstDrawCause : ℕ → Counts → ℕ → ℕ → ℕ → Type 0
FirstDrawCause seed counts turns places k = FirstAmong (DrawCause seed counts turns places) k
