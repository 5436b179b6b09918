-- The entry: any bytes as a sheet, any number of rounds, lent bytes for the board and lent numbers for the price list (request P-2). Assumes nothing.
use Rattle.std.specs.Prelude.{ℕ, ◌<◌, Bool, ◌||◌, List, [], ◌∷◌, ◌++◌, length, ltb}
use Rattle.refusal.specs.Number.{buffer_too_small}
use Rattle.refusal.specs.Cause.{Cause, ◌when◌, FirstAmong}
use Rattle.refusal.specs.Outcome.{unless}
use Rattle.model.specs.Turns.{Turns}
use Rattle.model.specs.Steps.{tally}
use Rattle.model.specs.Pick.{steps}
use Rattle.model.specs.Choice.{chosen}
use Rattle.sheet.specs.Read.{counts_in, turn_count, sheet_causes}
use Rattle.refusal.specs.Written.{at_front}
use Rattle.sheet.specs.Accepted.{MoreCause}
use Rattle.board.specs.Board.{board_length, board_of}
use Rattle.instance_spec.specs.Problem.{sheet_turns}
use Rattle.limit_spec.specs.Limit.{price_count}
use Rattle.refine_spec.specs.Rounds.{Stage}
use Rattle.refine_spec.specs.Shift.{shift_refined}

-- after the sheet's causes: fewer lent bytes than the planner asks for, or fewer lent numbers than the list has prices
unfoldable pub refine_causes : List ℕ → ℕ → ℕ → List Cause
refine_causes s bytes numbers = sheet_causes s ++ buffer_too_small when (ltb bytes (board_length (turn_count s) (turn_count s)) || ltb numbers (price_count s)) ∷ []

-- the refusal, 0 if none; else how many bytes the board has, what it is worth, the lowest limit and how many rounds were made; and what the lent bytes and the lent numbers hold then
pub record Refinement : Type 0 where
  pub refusal : ℕ
  pub bytes : ℕ
  pub worth : ℕ
  pub limit : ℕ
  pub rounds : ℕ
  pub board : List ℕ
  pub prices : List ℕ

-- a board of some turns with a choice of them, whichever it is: the planner's steps and their tally, the choice and its worth
unfoldable pub board_with : Turns → List Bool → List ℕ
board_with T S = board_of S (steps T) (tally (steps T)) (chosen T.count S T.worth)

-- what the rounds came to, written and returned
unfoldable pub refinement_of : Turns → Stage → List ℕ → List ℕ → Refinement
refinement_of T x board prices =
    let text = board_with T x.choice in
    record {
      refusal = 0;
      bytes = length text;
      worth = x.worth;
      limit = x.limit;
      rounds = x.rounds;
      board = at_front text board;
      prices = at_front x.list prices;
    }

-- a refusal, and all that is lent as before
abbrev pub not_refined : ℕ → List ℕ → List ℕ → Refinement
not_refined k board prices = record { refusal = k; bytes = 0; worth = 0; limit = 0; rounds = 0; board = board; prices = prices }

-- for a sheet, unless a cause is there
unfoldable pub refine_of : List ℕ → ℕ → List ℕ → List ℕ → Refinement
refine_of s rounds board prices =
    unless (refine_causes s (length board) (length prices))
    (refinement_of (sheet_turns s) (shift_refined (sheet_turns s) (counts_in s).groomers (counts_in s).slopes rounds) board prices)
    (λ k. not_refined k board prices)

-- ---- as statements

-- one of the lent places is too short
pub data PlacesFail (s : List ℕ) (bytes numbers : ℕ) : Type 0 where
  few_bytes : bytes < board_length (turn_count s) (turn_count s) → PlacesFail s bytes numbers
  few_prices : numbers < price_count s → PlacesFail s bytes numbers

-- a cause to refuse is there, at its place in the order: the sheet's, then a lent place that is too short
abbrev pub RefineCause : List ℕ → ℕ → ℕ → ℕ → ℕ → Type 0
RefineCause s bytes numbers = MoreCause s buffer_too_small (PlacesFail s bytes numbers)

-- the first of them has number k
abbrev pub FirstRefineCause : List ℕ → ℕ → ℕ → ℕ → Type 0
FirstRefineCause s bytes numbers k = FirstAmong (RefineCause s bytes numbers) k
