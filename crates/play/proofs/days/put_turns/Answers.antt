-- put_turns: puts the chosen turns, in their order, into the days of a blank table.
use Rattle.play.proofs.Rows.{loop_cases}
use borrow.Author.Rules.{rules}
use Rattle.play.proofs.days.put_turns.Goals as goal

pub loop-u-init : goal.loop-u-init
loop-u-init c = search (rules, loop_cases)

pub put_chosen-requires : goal.put_chosen-requires
put_chosen-requires c = search (rules, loop_cases)

pub loop-u-preserved : goal.loop-u-preserved
loop-u-preserved c = search (rules, loop_cases)

pub returns : goal.returns
returns c = search (rules, loop_cases)
