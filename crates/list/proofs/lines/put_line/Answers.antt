-- put_line: the line of turn u.
use Rattle.list.proofs.LinePieces.{line_cases}
use borrow.Author.Rules.{rules}
use Rattle.list.proofs.lines.put_line.Goals as goal

pub put_pair-next-requires : goal.put_pair-next-requires
put_pair-next-requires c = search (rules, line_cases)

pub put_two-requires : goal.put_two-requires
put_two-requires c = search (rules, line_cases)

pub returns : goal.returns
returns c = search (rules, line_cases)
