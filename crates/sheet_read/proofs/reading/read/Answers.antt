-- read: reads any bytes as a shift's sheet into any lent table.
use Rattle.sheet.proofs.Whole.{shift_sheet_cases}
use borrow.Author.Rules.{rules}
use Rattle.sheet_read.proofs.reading.read.Goals as goal

pub read_as-requires : goal.read_as-requires
read_as-requires c = search (rules, shift_sheet_cases)

pub returns : goal.returns
returns c = search (rules, shift_sheet_cases)
