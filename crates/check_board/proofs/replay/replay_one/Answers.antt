-- replay_one: a step on the turn at place j, if it is right where it stands; else nothing is changed.
use borrow.Author.Rules.{rules}
use Rattle.check_board.proofs.Replays.{one_cases}
use Rattle.check_board.proofs.replay.replay_one.Goals as goal

pub apply_step-cost-requires : goal.apply_step-cost-requires
apply_step-cost-requires c = search (rules, one_cases)
