-- run_of: what the turn at place i pays for: all that end with it, and all after that are in its way; nothing if it names no driver.
use Rattle.shift_look.proofs.RunCases.{place_cases}
use Rattle.best_table.proofs.OrderCases.{row_cases}
use borrow.Author.Rules.{rules}
use Rattle.shift_look.proofs.runs.run_of.Goals as goal

pub row_at_place-row-requires : goal.row_at_place-row-requires
row_at_place-row-requires c = (search (rules, row_cases), search (rules, row_cases))

pub returns-then-row-eq0 : goal.returns-then-row-eq0
returns-then-row-eq0 c = search place_cases

pub returns : goal.returns
returns c = search place_cases
