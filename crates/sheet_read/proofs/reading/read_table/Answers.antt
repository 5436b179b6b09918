-- read_table: reads any bytes as a shift's sheet, as read_table_of does a sheet of any kind.
use Rattle.sheet.proofs.Whole.{shift_sheet_cases}
use borrow.Author.Rules.{rules}
use Rattle.sheet_read.proofs.reading.read_table.Goals as goal

pub read_table_of-requires : goal.read_table_of-requires
read_table_of-requires c = search (rules, shift_sheet_cases)
