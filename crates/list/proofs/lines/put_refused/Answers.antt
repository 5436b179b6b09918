-- put_refused: the line of a refusal.
use Rattle.list.proofs.LinePieces.{refused_cases}
use borrow.Author.Rules.{rules}
use Rattle.list.proofs.lines.put_refused.Goals as goal

pub put_labelled-last-requires : goal.put_labelled-last-requires
put_labelled-last-requires c = search (rules, refused_cases)

pub put_byte-requires : goal.put_byte-requires
put_byte-requires c = search (rules, refused_cases)

pub returns : goal.returns
returns c = search (rules, refused_cases)
