-- asked: one of the numbers of four bytes that an entry is asked with, 0 where they are not there.
use Rattle.corpus.proofs.LineCases.{asked_cases}
use Rattle.corpus.proofs.entries.asked.Goals as goal

pub returns-then-numbers-lt-ASKED : goal.returns-then-numbers-lt-ASKED
returns-then-numbers-lt-ASKED c = search asked_cases

pub returns-else-numbers-lt-ASKED : goal.returns-else-numbers-lt-ASKED
returns-else-numbers-lt-ASKED c = search asked_cases
