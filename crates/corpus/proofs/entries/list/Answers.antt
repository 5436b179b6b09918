-- list: the line and the lent buffer are those of the entry's definition.
use Rattle.corpus.proofs.LineCases.{line_cases}
use Rattle.corpus.proofs.entries.list.Goals as goal

pub returns : goal.returns
returns c = search line_cases
