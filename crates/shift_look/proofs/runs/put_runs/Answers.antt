-- put_runs: the goals that the laws of the crate answer.
use borrow.Author.Rules.{rules}
use Rattle.shift_look.proofs.RunCases.{runs_cases, runs_more, before_more}
use Rattle.shift_look.proofs.runs.put_runs.Goals as goal

pub loop-i-init : goal.loop-i-init
loop-i-init c = (search (rules, runs_cases), search runs_cases)

pub bounds-order-i : goal.bounds-order-i
bounds-order-i c = search (rules, runs_cases)

pub put_run-requires : goal.put_run-requires
put_run-requires c = (search (rules, runs_cases), search (rules, runs_cases))

pub loop-i-preserved : goal.loop-i-preserved
loop-i-preserved c = (runs_more _ _ c.requires.0 _ c.requires.1 _ _ _ (search rules) c.loop-i.invariant.0 (search rules) c.put_run.ensures, search before_more)
