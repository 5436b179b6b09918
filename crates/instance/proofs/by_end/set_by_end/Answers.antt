-- set_by_end: all turns in order of end, those of one end by number; nothing is said of what the spare numbers hold afterwards.
use borrow.Author.Rules.{rules}
use Rattle.instance.proofs.Orders.{by_end_cases}
use Rattle.instance.proofs.by_end.set_by_end.Goals as goal

pub put_order-requires : goal.put_order-requires
put_order-requires c = (search (rules, by_end_cases), search (rules, by_end_cases), search (rules, by_end_cases))

pub returns : goal.returns
returns c = search (rules, by_end_cases)
