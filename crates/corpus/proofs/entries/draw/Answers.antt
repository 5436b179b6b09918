-- draw: the line and the lent buffer are those of the entry's definition.
use Rattle.corpus.proofs.LineCases.{asked_lines}
use Rattle.corpus.proofs.entries.draw.Goals as goal

pub returns : goal.returns
returns c = search asked_lines
