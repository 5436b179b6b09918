-- A drawn sheet: the one that is written for the drawn turns (request R-11). Assumes nothing.
use Rattle.std.specs.Prelude.{ℕ, List, ◌∷◌, length}
use Rattle.refusal.specs.Number.{bad_seed}
use Rattle.refusal.specs.Cause.{Cause, ◌when◌}
use Rattle.refusal.specs.Written.{Written, written_unless}
use Rattle.turn.specs.declared.Counts.{Counts}
use Rattle.turn.specs.Turn.{outside_range}
use Rattle.sheet.specs.Kind.{shift_sheet}
use Rattle.sheet.specs.Read.{count_causes}
use Rattle.write_spec.specs.Order.{sorted_turns}
use Rattle.write_spec.specs.Write.{sheet_of}
use Rattle.draw_spec.specs.Draw.{most_draw, drawn_turns}
use Rattle.refusal.specs.Outcome.{then_room}

-- the sheet of the drawn turns, in the written order
abbrev pub drawn_sheet : ℕ → Counts → ℕ → List ℕ
drawn_sheet seed counts turns = sheet_of counts (sorted_turns (drawn_turns turns counts seed))

-- what may be wrong, in the order of refusal: the seed, then the counts
unfoldable pub seed_causes : ℕ → Counts → ℕ → List Cause
seed_causes seed counts turns = bad_seed when outside_range seed most_draw ∷ count_causes shift_sheet counts turns

-- and last the lent bytes
unfoldable pub draw_causes : ℕ → Counts → ℕ → ℕ → List Cause
draw_causes seed counts turns places = then_room (seed_causes seed counts turns) (length (drawn_sheet seed counts turns)) places

-- on success the sheet, then what was there; on a refusal all as before
unfoldable pub draw_of : ℕ → Counts → ℕ → List ℕ → Written
draw_of seed counts turns lent = written_unless (draw_causes seed counts turns (length lent)) (drawn_sheet seed counts turns) lent
