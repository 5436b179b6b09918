-- width: how many bytes the fields of a map take.
use Rattle.sheet.specs.Record.{width_of}
use borrow.Author.Rules.{rules}
use Rattle.sheet.proofs.record.width.Goals as goal

pub returns : goal.returns
unfolding width_of
returns c = search rules
