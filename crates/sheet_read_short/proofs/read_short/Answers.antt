-- read_short: reads any bytes as a sheet for the short reader into any lent table.
use Rattle.sheet.proofs.Limits.{short_read_cases}
use borrow.Author.Rules.{rules}
use Rattle.sheet_read_short.proofs.read_short.Goals as goal

pub read_as-requires : goal.read_as-requires
read_as-requires c = search (rules, short_read_cases)

pub returns : goal.returns
returns c = search (rules, short_read_cases)
