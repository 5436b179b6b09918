-- clear_past: the goals that the laws of the crate answer.
use Rattle.choice_map.proofs.Maps.{clear_more, clear_cases}
use borrow.Author.Rules.{rules}
use Rattle.choice_map.proofs.clear_past.Goals as goal

pub loop-t-init : goal.loop-t-init
loop-t-init c = search (rules, clear_cases)

pub returns-then-is_chosen : goal.returns-then-is_chosen
returns-then-is_chosen c = search (rules, clear_cases)

pub loop-t-preserved : goal.loop-t-preserved
loop-t-preserved c = (search rules, search rules, clear_more _ _ _ c.loop-t.invariant.0 c.is_chosen.ensures c.if-is_chosen.false c.loop-t.invariant.2)

pub returns : goal.returns
returns c = search (rules, clear_cases)
