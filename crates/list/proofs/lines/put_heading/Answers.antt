-- put_heading: a groomer's heading.
use Rattle.list.proofs.LinePieces.{heading_cases}
use borrow.Author.Rules.{rules}
use Rattle.list.proofs.lines.put_heading.Goals as goal

pub put_labelled-last-requires : goal.put_labelled-last-requires
put_labelled-last-requires c = search (rules, heading_cases)

pub put_byte-requires : goal.put_byte-requires
put_byte-requires c = search (rules, heading_cases)

pub returns : goal.returns
returns c = search (rules, heading_cases)
