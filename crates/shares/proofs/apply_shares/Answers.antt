-- apply_shares: the goals that the laws of the crate answer.
use Rattle.shares.proofs.Shares.{shares_cases, shares_more}
use borrow.Author.Rules.{rules}
use Rattle.shares.proofs.apply_shares.Goals as goal

pub loop-t-init : goal.loop-t-init
loop-t-init c = (search rules, search rules, search rules, search shares_cases)

pub take_of-less-requires : goal.take_of-less-requires
take_of-less-requires c = (search rules, search (rules, shares_cases), search rules)

pub loop-t-preserved : goal.loop-t-preserved
loop-t-preserved c = (search rules, search rules, search (rules, shares_cases), shares_more _ _ _ _ _ _ _ _ _ (search rules) (search rules) (search rules) c.row_at.ensures c.take_of-less.ensures.0 c.lessen.ensures.0 c.loop-t.invariant.2 c.loop-t.invariant.3)

pub returns-clause-residuals_after : goal.returns-clause-residuals_after
returns-clause-residuals_after c = search (rules, shares_cases)

pub returns-clause-residuals_2 : goal.returns-clause-residuals_2
returns-clause-residuals_2 c = search (rules, shares_cases)
