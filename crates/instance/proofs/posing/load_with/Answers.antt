-- load_with: reads any bytes as a shift's sheet into columns, with lent room for the table of turns.
use Rattle.instance.proofs.Posed.{shift_sheet_load_cases}
use borrow.Author.Rules.{rules}
use Rattle.instance.proofs.posing.load_with.Goals as goal

pub load_as-requires : goal.load_as-requires
load_as-requires c = search (rules, shift_sheet_load_cases)

pub returns : goal.returns
returns c = search (rules, shift_sheet_load_cases)
