-- read_header: the header's counts and how many turns it names, or its first cause of refusal.
use Rattle.sheet.proofs.Headers.{header_cases}
use borrow.Author.Rules.{rules}
use Rattle.sheet_read.proofs.header.read_header.Goals as goal

pub returns-then-s-lt-HEADER_BYTES-clause-refused : goal.returns-then-s-lt-HEADER_BYTES-clause-refused
returns-then-s-lt-HEADER_BYTES-clause-refused c = search (rules, header_cases)

pub returns-then-opens_with-clause-refused : goal.returns-then-opens_with-clause-refused
returns-then-opens_with-clause-refused c = search (rules, header_cases)

pub returns-else-opens_with-clause-refused : goal.returns-else-opens_with-clause-refused
returns-else-opens_with-clause-refused c = search (rules, header_cases)
