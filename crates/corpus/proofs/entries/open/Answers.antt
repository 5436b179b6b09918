-- open: the refusals of opening and of counting, and how many turns are chosen; which ones goes into the lent numbers.
use Rattle.corpus.proofs.LineCases.{line_cases}
use Rattle.corpus.proofs.entries.open.Goals as goal

pub returns : goal.returns
returns c = search line_cases
