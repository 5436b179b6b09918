-- replay: the goals that the laws of the crate answer.
use borrow.Author.Rules.{rules}
use Rattle.check_board.proofs.Replays.{replay_cases}
use Rattle.check_board.proofs.replay.replay.Goals as goal

pub loop-i-init : goal.loop-i-init
loop-i-init c = (search rules, search replay_cases, search rules, search replay_cases, search replay_cases, search replay_cases)

pub loop-i-preserved : goal.loop-i-preserved
loop-i-preserved c = (search rules, search rules, search rules, search (replay_cases, c.in_ok-one.ensures), search (replay_cases, c.in_ok-one.ensures), search (replay_cases, c.in_ok-one.ensures))

pub returns-in_err-one : goal.returns-in_err-one
returns-in_err-one c = rw c.from_residual.ensures (search (replay_cases, c.in_err-one.ensures))

pub returns : goal.returns
returns c = (search replay_cases, search replay_cases, search replay_cases, search rules)
