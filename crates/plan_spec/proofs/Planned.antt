-- The planned board of a sheet that is not refused. Assumes nothing.
use Prim.Native.Nat.{ℕ, ◌<◌, ◌≤◌}
use mathlib.Core.Path.{◌≡◌}
use mathlib.Core.List.{List}
use native.Mathlib.Omega.{arith}
use lib.ListN.{length}
use Rattle.refusal.specs.Cause.{first_of}
use Rattle.refusal.specs.Written.{wrote}
use Rattle.refusal.proofs.Written.{written_all}
use Rattle.turn.specs.Turn.{most_worth}
use Rattle.sheet.specs.Kind.{most_turns}
use Rattle.sheet.specs.Read.{sheet_causes}
use Rattle.sheet.proofs.Unrefused.{few_turns}
use Rattle.instance_spec.specs.Problem.{sheet_turns}
use Rattle.instance_spec.proofs.SheetTurns.{sheet_count, sheet_worths}
use Rattle.plan_spec.specs.Plan.{planned_board, plan_causes, plan_of, board_for}
use Rattle.plan_spec.proofs.Boards.{ReadsBack, board_back}
use Rattle.board_open.proofs.Written.{map_read}
use Rattle.board.specs.Board.{board_map}
use Rattle.choice_map.specs.Choice.{map_of}
use Rattle.model.proofs.Promised.{planned_length}
use Rattle.model.specs.Choice.{choice}
use Rattle.model.specs.Pick.{steps}

-- ---- every sheet that is not refused

module _ (s : List ℕ) (z : first_of (sheet_causes s) ≡ 0) where
  sheet_few : (sheet_turns s).count ≤ most_turns
  sheet_few = omega (arith, sheet_count s z, few_turns s z)

  worths : (t : ℕ) → t < (sheet_turns s).count → (sheet_turns s).worth t ≤ most_worth
  worths t h = sheet_worths s z t (omega (arith, sheet_count s z))

  -- its board reads back
  pub planned_back : ReadsBack (sheet_turns s) (planned_board s)
  unfolding planned_board
  planned_back = board_back (sheet_turns s) sheet_few worths

  -- its map is that of the planner's choice
  pub planned_map : board_map (planned_board s) ≡ map_of (choice (sheet_turns s))
  unfolding planned_board board_for
  planned_map = map_read (choice (sheet_turns s)) (steps (sheet_turns s)) _ _ (omega (arith, planned_length (sheet_turns s), sheet_few))

-- where nothing is refused the lent bytes begin with its board
pub plan_written : (s lent : List ℕ) → (plan_of s lent).answer.refusal ≡ 0 → plan_of s lent ≡ wrote (planned_board s) lent
unfolding plan_of
plan_written s lent = written_all (plan_causes s (length lent)) (planned_board s) lent
