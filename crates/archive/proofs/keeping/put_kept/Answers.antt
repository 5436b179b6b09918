-- put_kept: writes the kept form of a sheet from its maps and the turns of a table.
use Rattle.archive.proofs.KeepCases.{kept_put}
use borrow.Author.Rules.{rules}
use Rattle.archive.proofs.keeping.put_kept.Goals as goal

pub returns : goal.returns
returns c = search (rules, kept_put)
