-- put_two: puts two words, each with its number, and a line feed.
use Rattle.list.proofs.LinePieces.{two_cases}
use borrow.Author.Rules.{rules}
use Rattle.list.proofs.lines.put_two.Goals as goal

pub put_pair-last-requires : goal.put_pair-last-requires
put_pair-last-requires c = search (rules, two_cases)

pub put_byte-requires : goal.put_byte-requires
put_byte-requires c = search (rules, two_cases)

pub returns : goal.returns
returns c = search (rules, two_cases)
