-- A board of the planner's steps with some choice, read back: for any turns, at most 400, none worth more than 60,000. Where the choice is independent, maximal and worth the tally, it keeps the rules. Assumes nothing.
use Prim.Native.Nat.{ℕ, ◌<◌, ◌≤◌}
use mathlib.Core.Path.{◌≡◌, refl, ◌∙◌}
use mathlib.Core.List.{List}
use mathlib.Core.Bool.{Bool, false}
use native.Mathlib.Omega.{arith}
use lib.ListN.{length}
use Rattle.refusal.specs.Cause.{first_of}
use Rattle.turn.specs.Turn.{most_worth}
use Rattle.sheet.specs.Kind.{most_turns}
use Rattle.sheet.specs.Read.{sheet_causes}
use Rattle.sheet.proofs.Unrefused.{few_turns}
use Rattle.model.specs.Turns.{Turns, PositiveLengths}
use Rattle.model.specs.Steps.{tally}
use Rattle.model.specs.Pick.{steps}
use Rattle.model.specs.Choice.{chosen}
use Rattle.model.specs.Rules.{KeepsRules}
use Rattle.model.proofs.Planned.{planned_right, steps_few}
use Rattle.model.proofs.Limits.{sums_limits}
use Rattle.model.proofs.Filled.{NoConflict, NoRoom}
use Rattle.model.proofs.Readings.{apart_reads, full_reads}
use Rattle.model.proofs.Promised.{planned_keeps}
use Rattle.board.specs.Board.{board_turns, board_tally, board_worth, board_length, board_choice, written_steps}
use Rattle.board_open.specs.Open.{malformed}
use Rattle.board_open.proofs.Written as written
use Rattle.board.proofs.WrittenSteps.{steps_small}
use Rattle.instance_spec.specs.Problem.{sheet_turns}
use Rattle.instance_spec.proofs.SheetTurns.{sheet_count, sheet_lengths, sheet_worths}
use Rattle.check_spec.specs.Check.{Passes}
use Rattle.check_spec.proofs.Passing.{parts_pass}
use Rattle.board_open.proofs.OpenCauses.{formed_board}
use Rattle.refine_spec.specs.Refine.{board_with}

-- everything that was written
pub record ReadsWith (T : Turns) (S : List Bool) (b : List ℕ) : Type 0 where
  pub opens : malformed b ≡ false
  pub turns : board_turns b ≡ T.count
  pub tallied : board_tally b ≡ tally (steps T)
  pub worth : board_worth b ≡ chosen T.count S T.worth
  pub chosen_turns : board_choice b ≡ S
  pub step_list : written_steps b ≡ steps T

module _ (T : Turns) (S : List Bool) (size : length S ≡ T.count) where
  pub with_size : length (board_with T S) ≡ board_length T.count (length (steps T))
  unfolding board_with
  with_size = written.board_length_lem S (steps T) _ _ ∙ rw size

  -- there is room for it where there is room for as many steps as turns
  pub with_most : length (board_with T S) ≤ board_length T.count T.count
  with_most = omega (arith, with_size, steps_few T)

  -- the two sums are below 2 to the power of 32 then, the counts and the amounts below 65,536
  pub with_back : T.count ≤ most_turns → ((t : ℕ) → t < T.count → T.worth t ≤ most_worth) → ReadsWith T S (board_with T S)
  unfolding board_with
  with_back few worths =
      let xs = steps T in
      let l : length S < 65536 = omega (arith, size) in
      let m : length (steps T) ≤ length S = omega (arith, size, steps_few T) in
      let sums = sums_limits T worths few (planned_right T) S in
      record {
        opens = written.board_formed S xs _ _ l m;
        turns = written.turns_read S xs _ _ l ∙ size;
        tallied = written.tally_read S xs _ _ (omega (arith, sums.0));
        worth = written.worth_read S xs _ _ (omega (arith, sums.1));
        chosen_turns = written.choice_read S xs _ _ l;
        step_list = written.steps_written S xs _ _ l m (steps_small T few worths);
      }

-- the planner's steps with such a choice keep the rules
module _ (T : Turns) (lengths : PositiveLengths T) (S : List Bool) where
  pub with_keeps : NoConflict T S → NoRoom T S → tally (steps T) ≤ chosen T.count S T.worth → KeepsRules T S (steps T) (tally (steps T)) (chosen T.count S T.worth)
  with_keeps a f e =
      let k = planned_keeps T lengths in
      record {
        apart = apart_reads T S lengths a;
        full = full_reads T S lengths f;
        steps_right = k.steps_right;
        closed = k.closed;
        tally_is = refl;
        worth_is = refl;
        covered = e;
      }

-- ---- on a sheet that is not refused

module _ (s : List ℕ) (z : first_of (sheet_causes s) ≡ 0) (S : List Bool) (size : length S ≡ (sheet_turns s).count) where
  pub sheet_back : ReadsWith (sheet_turns s) S (board_with (sheet_turns s) S)
  sheet_back = with_back (sheet_turns s) S size (omega (arith, sheet_count s z, few_turns s z)) (λ t h. sheet_worths s z t (omega (arith, sheet_count s z)))

  -- the check passes it
  pub with_passes : NoConflict (sheet_turns s) S → NoRoom (sheet_turns s) S → tally (steps (sheet_turns s)) ≤ chosen (sheet_turns s).count S (sheet_turns s).worth → Passes s (board_with (sheet_turns s) S)
  with_passes a f e =
      let b = board_with (sheet_turns s) S in
      let r = sheet_back in
      parts_pass s b z (record {
        form = rw (r.turns ∙ sheet_count s z) at (formed_board b r.opens);
        rules = rw (r.chosen_turns, r.step_list, r.tallied, r.worth) (with_keeps (sheet_turns s) (sheet_lengths s z) S a f e);
      })
