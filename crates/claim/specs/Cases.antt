-- The starred cases, through the definitions that the entries' contracts cite: one table, in document 01's order, with today's values (document 01: the starred cases; requests R-1, R-2, R-5, R-7). Assumes nothing.
use Rattle.std.specs.Prelude.{ℕ, ◌≡◌, List, [], ◌∷◌, ◌++◌, true, false, replicate, ℤ, pos, negsuc}
use Rattle.model.specs.Turns.{Turns}
use Rattle.model.specs.Steps.{Step, initial, after_step}
use Rattle.model.specs.Pick.{steps}
use Rattle.model.specs.Ceiling.{step_cost}
use Rattle.model.specs.Choice.{fits, go_back, choice}
use Rattle.turn.specs.declared.Counts.{Counts}
use Rattle.sheet.specs.Read.{read_of, read_refused}
use Rattle.instance_spec.specs.Problem.{sheet_turns}
use Rattle.write_spec.specs.Write.{write_of}
use Rattle.board_open.specs.Open.{open_of, steps_part}
use Rattle.check_spec.specs.Check.{check_of, checked}
use Rattle.plan_spec.specs.Plan.{plan_of}
use Rattle.list_spec.specs.List.{list_of}
use Rattle.sheet.specs.Shift.{shift}
use Rattle.board.specs.Shift.{shift_board}
use Rattle.claim.specs.Shift.{shift_table, shift_written, shift_steps, steps_exchanged, shift_listing, header, empty_board, late_turn, wrong_worth, one_and_three, one_to_fill}
use Rattle.refusal.specs.Outcome.{beside}

-- lent places hold 9 before
abbrev pub lent : ℕ → List ℕ
lent n = replicate n 9

-- the shift's four turns
abbrev pub shift_turns : Turns
shift_turns = sheet_turns shift

-- the shift's two groomers and three slopes
abbrev pub shift_counts : Counts
shift_counts = record { groomers = 2; slopes = 3 }

-- what each step of a run counts for in the ceiling
unfoldable pub costs_of : Turns → List ℤ → List Step → List ℕ
costs_of T s [] = []
costs_of T s (x ∷ xs) = step_cost T s x ∷ costs_of T (after_step T s x) xs

-- each case as an equation
pub record WorkedCases : Type 0 where
  -- the shift: its sheet is read; since R-5 each turn has a driver, here 0
  pub shift_read : read_of shift (lent 26) ≡ beside (record { refusal = 0; groomers = 2; slopes = 3; turns = 4 }) (shift_table ++ lent 2)
  -- the shift: its turns are written, since R-1 in another order
  pub shift_written_lem : write_of shift_counts shift_table (lent 40) ≡ beside (record { refusal = 0; bytes = 38 }) (shift_written ++ lent 2)
  -- the shift: the first step leaves 0, 50, -20 and 90
  pub shift_stepped : after_step shift_turns (initial shift_turns) (record { turn = 0; amount = 100 }) ≡ pos 0 ∷ pos 50 ∷ negsuc 19 ∷ pos 90 ∷ []
  -- the shift: since R-7 its three steps count for 200, 50 and 90, together the ceiling 340
  pub shift_costs : costs_of shift_turns (initial shift_turns) (steps shift_turns) ≡ 200 ∷ 50 ∷ 90 ∷ []
  -- the shift: going back over the steps chooses 3 and 1
  pub shift_gone_back : go_back shift_turns (steps shift_turns) ≡ false ∷ true ∷ false ∷ true ∷ []
  -- the shift: filling adds none since R-2, for turn 2 ends just where turn 3 starts
  pub shift_filled : choice shift_turns ≡ false ∷ true ∷ false ∷ true ∷ []
  -- of another sheet going back chooses turn 1 alone and leaves turn 2, which fits: without filling a turn may be left
  pub left_unfilled : go_back (sheet_turns one_to_fill) (steps (sheet_turns one_to_fill)) ≡ false ∷ true ∷ false ∷ []
  pub still_fits : fits (sheet_turns one_to_fill) (false ∷ true ∷ false ∷ []) 2 ≡ true
  -- the shift: its board, since R-2 with map 0A and worth 240
  pub shift_planned : plan_of shift (lent 33) ≡ beside (record { refusal = 0; bytes = 28 }) (shift_board ++ lent 5)
  -- the shift: its board opens
  pub shift_opened : open_of shift_board ≡ 0
  -- the shift: the three steps as they stand in its board
  pub shift_steps_lem : steps_part shift_board ≡ shift_steps
  -- the shift: its board passes, since R-7 with the ceiling 340
  pub shift_checked : check_of shift shift_board ≡ checked 0 240 240 340
  -- the shift: more than one order of steps passes
  pub steps_exchanged_lem : check_of shift steps_exchanged ≡ checked 0 240 240 340
  -- the shift: its listing, since R-2 without turn 2, since R-7 with the ceiling
  pub shift_listed : list_of shift (lent 102) ≡ beside (record { refusal = 0; bytes = 101 }) (shift_listing ++ lent 1)
  -- no bytes: 1, of the reader, the planner and the check
  pub nothing_read : read_of [] (lent 3) ≡ beside (read_refused 1) (lent 3)
  pub nothing_planned : plan_of [] (lent 3) ≡ beside (record { refusal = 1; bytes = 0 }) (lent 3)
  pub nothing_checked : check_of [] shift_board ≡ checked 1 0 0 0
  -- a header of no turns: its board has 15 bytes and sums of 0, and passes
  pub empty_read : read_of (header 0 0) [] ≡ beside (record { refusal = 0; groomers = 2; slopes = 3; turns = 0 }) []
  pub empty_planned : plan_of (header 0 0) (lent 16) ≡ beside (record { refusal = 0; bytes = 15 }) (empty_board ++ lent 1)
  pub empty_checked : check_of (header 0 0) empty_board ≡ checked 0 0 0 0
  -- the same header with 400 turns: 1
  pub most_read : read_of (header 1 0x90) [] ≡ beside (read_refused 1) []
  pub most_planned : plan_of (header 1 0x90) [] ≡ beside (record { refusal = 1; bytes = 0 }) []
  pub most_checked : check_of (header 1 0x90) empty_board ≡ checked 1 0 0 0
  -- the same header with 401 turns: 4
  pub many_read : read_of (header 1 0x91) [] ≡ beside (read_refused 4) []
  pub many_planned : plan_of (header 1 0x91) [] ≡ beside (record { refusal = 4; bytes = 0 }) []
  pub many_checked : check_of (header 1 0x91) empty_board ≡ checked 4 0 0 0
  -- start 900 and length 60: accepted
  pub end_read : read_of (late_turn 60 0 1) (lent 6) ≡ beside (record { refusal = 0; groomers = 1; slopes = 1; turns = 1 }) (1 ∷ 1 ∷ 900 ∷ 60 ∷ 1 ∷ 0 ∷ [])
  -- start 900 and length 61: 8
  pub late_read : read_of (late_turn 61 0 1) (lent 6) ≡ beside (read_refused 8) (lent 6)
  -- worth 60,000: accepted
  pub worth_read : read_of (late_turn 60 0xEA 0x60) (lent 6) ≡ beside (record { refusal = 0; groomers = 1; slopes = 1; turns = 1 }) (1 ∷ 1 ∷ 900 ∷ 60 ∷ 60000 ∷ 0 ∷ [])
  -- worth 60,001: 9
  pub dear_read : read_of (late_turn 60 0xEA 0x61) (lent 6) ≡ beside (read_refused 9) (lent 6)
  -- the shift's board, but turns 0 and 3 chosen and worth 190: 17
  pub wrong_worth_lem : check_of shift wrong_worth ≡ checked 17 0 0 0
  -- the shift's board, but turns 1 and 3 alone chosen and worth 240: 14 before R-2, and it passes since
  pub one_and_three_lem : check_of shift one_and_three ≡ checked 0 240 240 340
