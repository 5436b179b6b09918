-- put_sums: the last line.
use Rattle.list.proofs.LinePieces.{sums_cases}
use borrow.Author.Rules.{rules}
use Rattle.list.proofs.lines.put_sums.Goals as goal

pub put_labelled-next-requires : goal.put_labelled-next-requires
put_labelled-next-requires c = search (rules, sums_cases)

pub put_two-requires : goal.put_two-requires
put_two-requires c = search (rules, sums_cases)

pub returns : goal.returns
returns c = (search sums_cases, search sums_cases)
