-- judge_moves: the first cause to refuse m steps; if none, their ceiling, by place.
use Rattle.check_board.proofs.Replays.{fault_cases}
use Rattle.local_ratio.proofs.Replaying.{ceiling_is}
use borrow.Author.Rules.{rules}
use Rattle.check_board.proofs.replay.judge_moves.Goals as goal

pub returns-in_err-ceiling-clause-refused : goal.returns-in_err-ceiling-clause-refused
returns-in_err-ceiling-clause-refused c = search (rules, fault_cases)

pub returns-then-not-none_open-clause-refused : goal.returns-then-not-none_open-clause-refused
returns-then-not-none_open-clause-refused c = search (rules, fault_cases)

pub returns-clause-refused : goal.returns-clause-refused
returns-clause-refused c = search (rules, fault_cases)

pub returns-clause-counted : goal.returns-clause-counted
returns-clause-counted c = search (rules, ceiling_is)
