-- paid_by: all that turn t pays.
use Rattle.shift_look.proofs.CountCases.{run_sum_cases, paid_cases}
use borrow.Author.Rules.{rules}
use Rattle.shift_look.proofs.counts.paid_by.Goals as goal

pub overflow_sub-row : goal.overflow_sub-row
overflow_sub-row c = search (rules, paid_cases)

pub price_at-requires : goal.price_at-requires
price_at-requires c = search (rules, paid_cases)

pub overflow_add-result : goal.overflow_add-result
overflow_add-result c = search (rules, paid_cases)

pub returns : goal.returns
returns c = search paid_cases

pub run_sum-requires : goal.run_sum-requires
run_sum-requires c = search (rules, run_sum_cases)
