-- refused_line: the line in place of a listing where a sheet is refused; returns its bytes, of which those that find a place are written.
use Rattle.list_spec.proofs.Sizes.{refused_short, refused_most}
use borrow.Author.Rules.{rules}
use Rattle.list.proofs.refused_line.Goals as goal

pub put_refused-requires : goal.put_refused-requires
put_refused-requires c = search (rules, refused_short)

pub returns : goal.returns
returns c = search (rules, refused_most)
