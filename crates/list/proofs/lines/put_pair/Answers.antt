-- put_pair: puts two words, each with its number.
use Rattle.list.proofs.LinePieces.{pair_cases}
use borrow.Author.Rules.{rules}
use Rattle.list.proofs.lines.put_pair.Goals as goal

pub returns : goal.returns
returns c = search (rules, pair_cases)
