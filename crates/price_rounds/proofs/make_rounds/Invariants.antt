-- Invariant: what is left to do from the stage that is held is what was to do at the start; what no round changes is there; lent places keep their lengths. Measure: the rounds left.
use Prim.Native.Nat.{◌-◌}
use Rattle.price_rounds.specs.Rounds.{task_by, RoundsUnderway}
use Rattle.price_rounds.proofs.make_rounds.Given as goal

abbrev pub invariant-loop-ranks : goal.invariant-loop-ranks
invariant-loop-ranks g l =
    RoundsUnderway (task_by (g.R.PriceRule.rule l.rule) l.s) l.cols l.initial.kept l.initial.best l.orders l.rows l.ranks l.kept l.best l.prices l.change l.limit l.worth l.made

abbrev pub decreases-loop-ranks : goal.decreases-loop-ranks
decreases-loop-ranks g l = l.s.rounds - l.made
