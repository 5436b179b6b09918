-- run_start: the first place whose turn has the groomer and end of the one at i; from is that place for i - 1.
use Rattle.shift_look.proofs.RunCases.{start_cases}
use Rattle.best_table.proofs.OrderCases.{row_cases}
use borrow.Author.Rules.{rules}
use Rattle.shift_look.proofs.runs.run_start.Goals as goal

pub row_at_place-last-requires : goal.row_at_place-last-requires
row_at_place-last-requires c = (search (rules, start_cases), search (rules, start_cases))

pub row_at_place-requires : goal.row_at_place-requires
row_at_place-requires c = (search (rules, row_cases), search (rules, row_cases))

pub returns-then-end_together : goal.returns-then-end_together
returns-then-end_together c = search start_cases

pub returns : goal.returns
returns c = search start_cases
