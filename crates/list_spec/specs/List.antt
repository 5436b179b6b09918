-- The listing entry: any bytes as a sheet, and lent bytes for the text (document 01: the program slopes; request R-7). Assumes nothing.
use Rattle.std.specs.Prelude.{ℕ, List, length}
use Rattle.refusal.specs.Cause.{Cause, FirstAmong}
use Rattle.refusal.specs.Written.{Written, written_unless}
use Rattle.model.specs.Turns.{Turns}
use Rattle.model.specs.Steps.{tally}
use Rattle.model.specs.Pick.{steps}
use Rattle.model.specs.Choice.{chosen, choice}
use Rattle.model.specs.Ceiling.{ceiling}
use Rattle.sheet.specs.Read.{counts_in, sheet_causes}
use Rattle.sheet.specs.Accepted.{LentCause}
use Rattle.instance_spec.specs.Problem.{sheet_turns}
use Rattle.list_spec.specs.declared.Sums.{Sums}
use Rattle.list_spec.specs.Text.{listing_of}
use Rattle.refusal.specs.Outcome.{then_room}

-- what the planner's choice of some turns is worth, and the tally and the ceiling of the planner's steps
unfoldable pub sums_for : Turns → Sums
sums_for T = record { worth = chosen T.count (choice T) T.worth; tally = tally (steps T); ceiling = ceiling T (steps T) }

-- the listing of some turns: the planner's choice, and these sums
unfoldable pub listing_for : ℕ → Turns → List ℕ
listing_for groomers T = listing_of groomers T (choice T) (sums_for T)

-- the listing of a sheet
unfoldable pub sheet_listing : List ℕ → List ℕ
sheet_listing s = listing_for (counts_in s).groomers (sheet_turns s)

-- after the sheet's causes: the lent bytes must hold this very listing
unfoldable pub list_causes : List ℕ → ℕ → List Cause
list_causes s places = then_room (sheet_causes s) (length (sheet_listing s)) places

-- on success the listing, then what was there; on a refusal all as before
unfoldable pub list_of : List ℕ → List ℕ → Written
list_of s lent = written_unless (list_causes s (length lent)) (sheet_listing s) lent

-- ---- as statements

-- a cause to refuse is there: the sheet's, or too few lent bytes
abbrev pub ListCause : List ℕ → ℕ → ℕ → ℕ → Type 0
ListCause s = LentCause s (length (sheet_listing s))

-- the first of them has number k
abbrev pub FirstListCause : List ℕ → ℕ → ℕ → Type 0
FirstListCause s places k = FirstAmong (ListCause s places) k
