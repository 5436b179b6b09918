-- The check: any bytes as a sheet, any bytes as a board (document 01: the check, refusals 12 to 17; request R-7). Assumes nothing.
use Rattle.std.specs.Prelude.{ℕ, ◌<◌, ◌≡◌, List, [], ◌∷◌, ◌++◌, Bool, true, false, not, cond, ◌||◌, ◌≢◌, ◌⊎◌, eqb, ℤ}
use Rattle.refusal.specs.Number.{malformed_board, chosen_conflict, not_maximal, wrong_step, turn_left_open, wrong_sums}
use Rattle.refusal.specs.Cause.{Cause, ◌when◌, FirstAmong}
use Rattle.model.specs.Turns.{Turns, Conflict}
use Rattle.model.specs.Steps.{Step, is_open, initial, after_step, after_steps, tally}
use Rattle.model.specs.Choice.{has, chosen}
use Rattle.model.specs.Rules.{independent, maximal, right, all_right, none_open, sums, Right, Each, KeepsRules}
use Rattle.model.specs.Ceiling.{ceiling}
use Rattle.sheet.specs.Read.{turn_count, sheet_causes}
use Rattle.sheet.specs.Accepted.{SheetCause, place_of}
use Rattle.instance_spec.specs.Problem.{sheet_turns}
use Rattle.check_spec.specs.declared.CheckAnswer.{CheckAnswer}
use Rattle.board.specs.Board.{board_turns, board_steps, board_tally, board_worth, board_choice, written_steps}
use Rattle.board_open.specs.Open.{malformed, WellFormed, OpenCause}
use Rattle.refusal.specs.Outcome.{unless}
use Rattle.refusal.specs.Words.{Then}

-- what may be wrong with a choice: two chosen turns conflict, or a turn still fits
unfoldable pub choice_causes : Turns → List Bool → List Cause
choice_causes T S = chosen_conflict when not (independent T S) ∷ not_maximal when not (maximal T S) ∷ []

-- the residuals after the steps up to the first that is not right: each of these takes its amount, that one and those after it take none
unfoldable pub after_right : Turns → List ℤ → List Step → List ℤ
after_right T s [] = s
after_right T s (x ∷ xs) = cond (right T s x) (after_right T (after_step T s x) xs) s

-- what may be wrong with steps: one is not right; or a turn is open once the steps before the first that is not right, or all if all are, have taken their amounts
unfoldable pub step_causes : Turns → List Step → List Cause
step_causes T xs = wrong_step when not (all_right T (initial T) xs) ∷ turn_left_open when not (none_open T (after_right T (initial T) xs)) ∷ []

-- the choice is judged before the steps
unfoldable pub rule_causes : Turns → List Bool → List Step → List Cause
rule_causes T S xs = choice_causes T S ++ step_causes T xs

-- 17: a sum that is not what it names, or a worth below the tally
unfoldable pub sum_causes : Turns → List Bool → List Step → ℕ → ℕ → List Cause
sum_causes T S xs tallied worth = wrong_sums when not (sums T S xs tallied worth) ∷ []

-- the rules are judged before the sums
abbrev pub part_causes : Turns → List Bool → List Step → ℕ → ℕ → List Cause
part_causes T S xs tallied worth = rule_causes T S xs ++ sum_causes T S xs tallied worth

-- all causes that a board gives for some turns: 12 for its bytes or for another number of turns, then those of its parts
unfoldable pub board_causes : Turns → List ℕ → List Cause
board_causes T b =
    malformed_board when (malformed b || not (eqb (board_turns b) T.count))
    ∷ part_causes T (board_choice b) (written_steps b) (board_tally b) (board_worth b)

-- the sheet's causes come first
unfoldable pub check_causes : List ℕ → List ℕ → List Cause
check_causes s b = sheet_causes s ++ board_causes (sheet_turns s) b

-- the check's answer: a refusal, a tally, a worth, a ceiling
abbrev pub checked : ℕ → ℕ → ℕ → ℕ → CheckAnswer
checked refusal tally worth ceiling = record { refusal = refusal; tally = tally; worth = worth; ceiling = ceiling }

-- the check: the first cause's number and no sums, or the board's own tally and worth, and the ceiling of its steps
unfoldable pub check_of : List ℕ → List ℕ → CheckAnswer
check_of s b = unless (check_causes s b) (checked 0 (board_tally b) (board_worth b) (ceiling (sheet_turns s) (written_steps b))) (λ k. checked k 0 0 0)

-- the board passes: the check refuses nothing
abbrev pub Passes : List ℕ → List ℕ → Type 0
Passes s b = (check_of s b).refusal ≡ 0

-- ---- as statements

-- b keeps the rules for s: it is a board of as many turns, and its choice, steps and sums keep the model's rules
pub record BoardKeeps (s b : List ℕ) : Type 0 where
  pub form : WellFormed b (turn_count s) (board_steps b)
  pub rules : KeepsRules (sheet_turns s) (board_choice b) (written_steps b) (board_tally b) (board_worth b)

-- one of these steps is not right: each step before it is right where it stands, and it is not, once these have taken their amounts
pub record OneWrong (T : Turns) (xs : List Step) : Type 0 where
  pub before : List Step
  pub wrong : Step
  pub behind : List Step
  pub steps : xs ≡ before ++ (wrong ∷ behind)
  pub before_right : Each (after_step T) (Right T) (initial T) before
  pub not_right : Right T (after_steps T (initial T) before) wrong → ⊥

-- the steps of xs that take their amounts: in order, each right where it stands, until one is not or none is left
pub record UntilWrong (T : Turns) (xs taking : List Step) : Type 0 where
  pub rest : List Step
  pub steps : xs ≡ taking ++ rest
  pub taking_right : Each (after_step T) (Right T) (initial T) taking
  pub stops : (x : Step) (ys : List Step) → rest ≡ x ∷ ys → Right T (after_steps T (initial T) taking) x → ⊥

-- a cause to refuse b as a board for these turns is there: its number, and its place in the order
pub data BoardCause (T : Turns) (b : List ℕ) : ℕ → ℕ → Type 0 where
  -- 12: it does not open, or is for another number of turns
  no_board : {r : ℕ} → OpenCause b malformed_board r → BoardCause T b malformed_board 0
  other_count : board_turns b ≢ T.count → BoardCause T b malformed_board 0
  -- 13
  two_conflict : (x y : ℕ) → x < T.count → y < T.count → x ≢ y → has (board_choice b) x ≡ true → has (board_choice b) y ≡ true → Conflict T x y → BoardCause T b chosen_conflict 1
  -- 14
  room_left : (t : ℕ) → t < T.count → has (board_choice b) t ≡ false → ((u : ℕ) → u < T.count → has (board_choice b) u ≡ true → Conflict T u t → ⊥) → BoardCause T b not_maximal 2
  -- 15
  step_wrong : OneWrong T (written_steps b) → BoardCause T b wrong_step 3
  -- 16: after the written steps, as far as they take their amounts
  turn_open : (taking : List Step) → UntilWrong T (written_steps b) taking → (t : ℕ) → t < T.count → is_open (after_steps T (initial T) taking) t ≡ true → BoardCause T b turn_left_open 4
  -- 17
  sums_differ : (board_tally b ≢ tally (written_steps b)) ⊎ (board_worth b ≢ chosen T.count (board_choice b) T.worth) ⊎ (board_worth b < board_tally b) → BoardCause T b wrong_sums 5

-- a cause to refuse s or b: the sheet's come first; the board's places count from after the sheet's last
abbrev pub CheckCause : List ℕ → List ℕ → ℕ → ℕ → Type 0
CheckCause s b = Then (SheetCause s) (place_of (turn_count s) 1) (BoardCause (sheet_turns s) b)

-- the first cause to refuse s or b has number k
abbrev pub FirstCheckCause : List ℕ → List ℕ → ℕ → Type 0
FirstCheckCause s b k = FirstAmong (CheckCause s b) k
