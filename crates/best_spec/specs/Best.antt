-- The best worth of a shift with one turn a slope: any bytes as a sheet, and lent bytes for the choice map (request R-9). Assumes nothing.
use Rattle.std.specs.Prelude.{ℕ, ◌<◌, ◌≡◌, ◌≢◌, not, List, [], ◌∷◌, ◌++◌, length}
use Rattle.refusal.specs.Number.{not_single_turns}
use Rattle.refusal.specs.Cause.{Cause, ◌when◌, FirstAmong}
use Rattle.model.specs.Turns.{Turns}
use Rattle.sheet.specs.Read.{turn_count, sheet_causes}
use Rattle.sheet.specs.Accepted.{place_of, MoreCause}
use Rattle.choice_map.specs.Choice.{map_bytes, map_of}
use Rattle.instance_spec.specs.Problem.{sheet_turns}
use Rattle.best_spec.specs.Table.{best_worth, best_choice}
use Rattle.best_spec.specs.Single.{single_turns}
use Rattle.refusal.specs.Outcome.{Outcome, beside, unless, then_room}
use Rattle.refusal.specs.Words.{ThenRoom}
use Rattle.refusal.specs.Written.{at_front}
use Rattle.best_spec.specs.declared.BestAnswer.{BestAnswer}

-- after the sheet's causes: a slope with two turns, or a driver
unfoldable pub single_causes : List ℕ → List Cause
single_causes s = sheet_causes s ++ not_single_turns when not (single_turns (sheet_turns s)) ∷ []

-- and last too few lent bytes for the map
unfoldable pub best_causes : List ℕ → ℕ → List Cause
best_causes s = then_room (single_causes s) (map_bytes (turn_count s))

-- the refusal and the worth, and what the lent bytes hold then
abbrev pub Earned : Type 0
Earned = Outcome BestAnswer (List ℕ)

-- the best worth, and the map of the set that earns it, then what was there
abbrev pub found : Turns → List ℕ → Earned
found T lent = beside (record { refusal = 0; worth = best_worth T }) (at_front (map_of (best_choice T)) lent)

-- a refusal returns its number and no worth
abbrev pub best_refused : ℕ → BestAnswer
best_refused k = record { refusal = k; worth = 0 }

-- the best of some turns, or a refusal where the lent bytes are too few for their map
unfoldable pub best_in : Turns → List ℕ → Earned
best_in T lent = unless (then_room [] (map_bytes T.count) (length lent)) (found T lent) (λ k. beside (best_refused k) lent)

-- the best of a sheet unless a cause is there
unfoldable pub best_of : List ℕ → List ℕ → Earned
best_of s lent = unless (best_causes s (length lent)) (found (sheet_turns s) lent) (λ k. beside (best_refused k) lent)

-- ---- as statements

-- a slope has two turns, or a turn a driver
pub data NotSingle (T : Turns) : Type 0 where
  two_turns : (x y : ℕ) → x < T.count → y < T.count → x ≢ y → T.slope x ≡ T.slope y → NotSingle T
  names_driver : (t : ℕ) → t < T.count → T.driver t ≢ 0 → NotSingle T

-- a cause to refuse is there, at its place in the order: the sheet's, then a shift that is not single, and last too few lent bytes
abbrev pub BestCause : List ℕ → ℕ → ℕ → ℕ → Type 0
BestCause s = ThenRoom (MoreCause s not_single_turns (NotSingle (sheet_turns s))) (place_of (turn_count s) 2) (map_bytes (turn_count s))

-- the first of them has number k
abbrev pub FirstBestCause : List ℕ → ℕ → ℕ → Type 0
FirstBestCause s places k = FirstAmong (BestCause s places) k
