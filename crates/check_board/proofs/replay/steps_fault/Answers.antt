-- steps_fault: the first cause to refuse m steps; if none, their ceiling.
use borrow.Author.Rules.{rules}
use Rattle.check_board.proofs.Replays.{first_by_number, counted_by_number}
use Rattle.instance.proofs.Placed.{order_numbered}
use Rattle.check_board.proofs.replay.steps_fault.Goals as goal

pub put_places-requires : goal.put_places-requires
put_places-requires c = (search order_numbered, search rules, search rules)

pub returns-clause-refused : goal.returns-clause-refused
returns-clause-refused c = search first_by_number

pub returns-clause-counted : goal.returns-clause-counted
returns-clause-counted c = counted_by_number c.put_by_end.ensures c.put_places.ensures c.args.steps.now c.args.m c.judge_moves.result c.judge_moves.ensures.refused c.judge_moves.ensures.counted
