-- What a better board by rounds promises, of what the entry writes and returns (request P-2). Assumes nothing.
use Rattle.std.specs.Prelude.{◌≡◌, ◌≢◌, ◌⊎◌, List, ℕ, ◌≤◌, ◌<◌, take, drop, replicate}
use Rattle.model.specs.Feasible.{Feasible, worth_of}
use Rattle.sheet.specs.Read.{counts_in}
use Rattle.board.specs.Board.{board_tally, board_worth, board_choice, written_steps}
use Rattle.instance_spec.specs.Problem.{sheet_turns}
use Rattle.check_spec.specs.Check.{Passes}
use Rattle.plan_spec.specs.Plan.{planned_board}
use Rattle.limit_spec.specs.Prices.{turn_price}
use Rattle.limit_spec.specs.Limit.{price_count, limit_is, limit_of}
use Rattle.refine_spec.specs.Rounds.{RoundRule, first_change, LowestKept, BestKept}
use Rattle.refine_spec.specs.Shift.{shift_rule, greatest_worth}
use Rattle.refine_spec.specs.Refine.{refine_of}

-- the bytes of the board that the entry wrote
abbrev pub refined_board : List ℕ → ℕ → List ℕ → List ℕ → List ℕ
refined_board s rounds board prices = take (refine_of s rounds board prices).bytes (refine_of s rounds board prices).board

-- the price list that it wrote
abbrev pub refined_prices : List ℕ → ℕ → List ℕ → List ℕ → List ℕ
refined_prices s rounds board prices = take (price_count s) (refine_of s rounds board prices).prices

-- the rule of a sheet's rounds, and the change of the first
abbrev pub sheet_rule : List ℕ → RoundRule
sheet_rule s = shift_rule (sheet_turns s) (counts_in s).groomers (counts_in s).slopes

abbrev pub sheet_change : List ℕ → ℕ
sheet_change s = first_change 4 (greatest_worth (sheet_turns s))

-- of an answer that refuses nothing
pub record RefinePromised (s : List ℕ) (rounds : ℕ) (board prices : List ℕ) : Type 0 where
  -- the check passes the board for this sheet
  pub passes : Passes s (refined_board s rounds board prices)
  -- its steps and its tally are the planned board's
  pub steps_same : written_steps (refined_board s rounds board prices) ≡ written_steps (planned_board s)
  pub tally_same : board_tally (refined_board s rounds board prices) ≡ board_tally (planned_board s)
  -- the worth that is returned stands in it, and is no less than the planned board's
  pub worth_is : board_worth (refined_board s rounds board prices) ≡ (refine_of s rounds board prices).worth
  pub no_less : board_worth (planned_board s) ≤ (refine_of s rounds board prices).worth
  -- the limit is what the limit's entry gives for the written prices
  pub limit_is_lem : limit_of s (refined_prices s rounds board prices) ≡ limit_is (refine_of s rounds board prices).limit
  -- no feasible set of the sheet's turns is worth more than the limit, and neither is the board
  pub within : (R : List ℕ) → Feasible (sheet_turns s) R → worth_of (sheet_turns s) R ≤ (refine_of s rounds board prices).limit
  pub worth_within : (refine_of s rounds board prices).worth ≤ (refine_of s rounds board prices).limit
  -- nor is a board that passes the check for this sheet, whoever made it
  pub boards_within : (b : List ℕ) → Passes s b → board_worth b ≤ (refine_of s rounds board prices).limit
  -- where limit and worth are equal, none is worth more than the board
  pub best : (refine_of s rounds board prices).limit ≡ (refine_of s rounds board prices).worth → (R : List ℕ) → Feasible (sheet_turns s) R →
      worth_of (sheet_turns s) R ≤ board_worth (refined_board s rounds board prices)
  pub best_board : (refine_of s rounds board prices).limit ≡ (refine_of s rounds board prices).worth → (b : List ℕ) → Passes s b → board_worth b ≤ board_worth (refined_board s rounds board prices)
  -- of the looks made, one more than the rounds, the written prices are those of the first with the lowest limit, which is returned
  pub prices_kept : LowestKept (sheet_rule s) (sheet_change s) (replicate (price_count s) 0) (refine_of s rounds board prices).rounds (refine_of s rounds board prices).limit (refined_prices s rounds board prices)
  -- the written choice is that of the first look whose choice is worth most, if it is worth more than the planned one; else the planned one
  pub choice_kept : BestKept (sheet_rule s) (sheet_change s) (replicate (price_count s) 0) (board_choice (planned_board s)) (refine_of s rounds board prices).rounds (board_choice (refined_board s rounds board prices))
  -- with more rounds the worth is no less, and the limit is no higher, whatever is lent then, if nothing is refused
  pub more_worth : (more : ℕ) (board' prices' : List ℕ) → rounds ≤ more → (refine_of s more board' prices').refusal ≡ 0 →
      (refine_of s rounds board prices).worth ≤ (refine_of s more board' prices').worth
  pub more_limit : (more : ℕ) (board' prices' : List ℕ) → rounds ≤ more → (refine_of s more board' prices').refusal ≡ 0 →
      (refine_of s more board' prices').limit ≤ (refine_of s rounds board prices).limit
  -- with the same number of rounds, worth, limit and rounds made do not depend on what is lent
  pub places_apart : (board' prices' : List ℕ) → (refine_of s rounds board' prices').refusal ≡ 0 →
      ((refine_of s rounds board' prices').worth ≡ (refine_of s rounds board prices).worth) × ((refine_of s rounds board' prices').limit ≡ (refine_of s rounds board prices).limit)
      × ((refine_of s rounds board' prices').rounds ≡ (refine_of s rounds board prices).rounds)
  -- the rounds made: no more than given; fewer only if limit and worth are equal; with any fewer rounds they are not equal
  pub made : (refine_of s rounds board prices).rounds ≤ rounds
  pub ended : ((refine_of s rounds board prices).rounds ≡ rounds) ⊎ ((refine_of s rounds board prices).limit ≡ (refine_of s rounds board prices).worth)
  pub not_before : (k : ℕ) (board' prices' : List ℕ) → k < (refine_of s rounds board prices).rounds → (refine_of s k board' prices').refusal ≡ 0 →
      (refine_of s k board' prices').limit ≢ (refine_of s k board' prices').worth
  -- where a turn names no driver, its price is 0
  pub driverless : (u : ℕ) → u < (sheet_turns s).count → (sheet_turns s).driver u ≡ 0 → turn_price (counts_in s).slopes (refined_prices s rounds board prices) u ≡ 0
  -- what is lent after the board and after the list is as before
  pub board_rest : drop (refine_of s rounds board prices).bytes (refine_of s rounds board prices).board ≡ drop (refine_of s rounds board prices).bytes board
  pub prices_rest : drop (price_count s) (refine_of s rounds board prices).prices ≡ drop (price_count s) prices
