-- parts_fault: the first cause that the parts of a board give, its map and its steps; if none, the ceiling of the steps.
use Rattle.check_board.proofs.Judgements.{parts_rules, parts_sums}
use Rattle.refusal.proofs.Numbers.{refuses}
use borrow.Author.Rules.{rules}
use Rattle.check_board.proofs.judge.parts_fault.Goals as goal

pub returns-in_err-ceiling-clause-refused : goal.returns-in_err-ceiling-clause-refused
returns-in_err-ceiling-clause-refused c = parts_rules _ _ c.args.steps.now c.args.b.now c.step_count-m.ensures (search rules) (refuses c.from_residual.result (search rules))

pub returns-in_err-sums_fault-clause-refused : goal.returns-in_err-sums_fault-clause-refused
returns-in_err-sums_fault-clause-refused c = parts_sums _ _ c.args.steps.now c.args.b.now c.step_count-m.ensures c.in_ok-ceiling.ensures.refused (search rules)

pub returns-clause-refused : goal.returns-clause-refused
returns-clause-refused c = parts_sums _ _ c.args.steps.now c.args.b.now c.step_count-m.ensures c.in_ok-ceiling.ensures.refused c.in_ok-sums_fault.ensures
