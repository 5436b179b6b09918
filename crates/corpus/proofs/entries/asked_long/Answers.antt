-- asked_long: the number of eight bytes.
use Rattle.corpus.proofs.LineCases.{asked_cases}
use Rattle.corpus.proofs.entries.asked_long.Goals as goal

pub returns : goal.returns
returns c = search asked_cases
