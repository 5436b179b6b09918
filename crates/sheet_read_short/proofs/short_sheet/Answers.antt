-- short_sheet: the kind of a shift's sheet with at most 96 turns.
use borrow.Author.Rules.{rules}
use Rattle.sheet.proofs.Limits.{short_cases}
use Rattle.sheet_read_short.proofs.short_sheet.Goals as goal

pub returns : goal.returns
returns c = search (rules, short_cases)
