-- put_rows: the goals that the laws of the crate answer.
use borrow.Author.Rules.{rules}
use Rattle.instance.proofs.Orders.{rows_cases}
use Rattle.instance.proofs.by_end.put_rows.Goals as goal

pub loop-i-init : goal.loop-i-init
loop-i-init c = search (rules, rows_cases)

pub row_at-requires : goal.row_at-requires
row_at-requires c = search (rules, rows_cases)

pub put_row-requires : goal.put_row-requires
put_row-requires c = search (rules, rows_cases)

pub loop-i-preserved : goal.loop-i-preserved
loop-i-preserved c = search (rules, rows_cases)

pub returns : goal.returns
returns c = search (rules, rows_cases)
