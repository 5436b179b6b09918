-- What the listing has to do with the other two entries: the board that the planner writes for the same sheet, and the check's answer for it (document 01: the program slopes; request R-7). Assumes nothing.
use Rattle.std.specs.Prelude.{ℕ, ◌+◌, ◌≡◌, List, length}
use Rattle.refusal.specs.Written.{wrote}
use Rattle.lists.specs.Lists.{sum_over, below}
use Rattle.sheet.specs.Read.{counts_in}
use Rattle.choice_map.specs.Choice.{ones_in}
use Rattle.board.specs.Board.{board_map, board_choice}
use Rattle.instance_spec.specs.Problem.{sheet_turns}
use Rattle.check_spec.specs.declared.CheckAnswer.{CheckAnswer}
use Rattle.check_spec.specs.Check.{Passes, check_of}
use Rattle.list_spec.specs.Round.{round_of, Round}
use Rattle.list_spec.specs.declared.Sums.{Sums}
use Rattle.list_spec.specs.Text.{listing_of}
use Rattle.list_spec.specs.List.{list_of}

-- the sums of a last line, as an answer of the check has them
abbrev pub sums_in : CheckAnswer → Sums
sums_in answer = record { worth = answer.worth; tally = answer.tally; ceiling = answer.ceiling }

-- the text for a sheet s and a board b: of all groomers of s, of its turns as far as b chooses them, and of the sums that the check answers for b
abbrev pub text_for : List ℕ → List ℕ → List ℕ
text_for s b = listing_of (counts_in s).groomers (sheet_turns s) (board_choice b) (sums_in (check_of s b))

-- of an answer that refuses nothing, and a board b
pub record ListPromised (s b lent : List ℕ) : Type 0 where
  -- the board passes
  pub passes : Passes s b
  -- the answer is the number of bytes of their text; the lent bytes begin with this text, and after it hold what they held
  pub writes : list_of s lent ≡ wrote (text_for s b) lent
  -- below a groomer's heading stand exactly its chosen turns, each once, by start
  pub rounds : (h : ℕ) → Round (sheet_turns s) (board_choice b) h (round_of (sheet_turns s) (board_choice b) h)
  -- there are as many turn lines as ones in the board's map
  pub turn_lines : sum_over (λ k. length (round_of (sheet_turns s) (board_choice b) (k + 1))) (below (counts_in s).groomers) ≡ ones_in (board_map b)
