-- write: writes the numbers that stand in the input into the lent bytes, by way of a table.
use Rattle.corpus.proofs.LineCases.{asked_lines}
use Rattle.corpus.proofs.entries.write.Goals as goal

pub returns : goal.returns
returns c = search asked_lines
