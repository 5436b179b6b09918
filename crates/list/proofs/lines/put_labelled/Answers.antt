-- put_labelled: a word and then a number.
use Rattle.list.proofs.LinePieces.{labelled_cases}
use borrow.Author.Rules.{rules}
use Rattle.list.proofs.lines.put_labelled.Goals as goal

pub put_text-next-requires : goal.put_text-next-requires
put_text-next-requires c = search (rules, labelled_cases)

pub put_number-requires : goal.put_number-requires
put_number-requires c = search (rules, labelled_cases)

pub returns : goal.returns
returns c = search (rules, labelled_cases)
