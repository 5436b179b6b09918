-- archive: a shift's sheet with the mark of a kept form.
use Rattle.archive.proofs.RestoreCases.{archive_made}
use borrow.Author.Rules.{rules}
use Rattle.archive.proofs.restoring.archive.Goals as goal

pub returns : goal.returns
returns c = search (rules, archive_made)
