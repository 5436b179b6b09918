-- count_fault: the first thing wrong with a sheet's counts, or 0.
use Rattle.sheet.proofs.Headers.{count_cases}
use borrow.Author.Rules.{rules}
use Rattle.sheet_read.proofs.header.count_fault.Goals as goal

pub returns-then-outside_range : goal.returns-then-outside_range
returns-then-outside_range c = search (rules, count_cases)

pub returns-then-outside_range-2 : goal.returns-then-outside_range-2
returns-then-outside_range-2 c = search (rules, count_cases)

pub returns-then-kind-n : goal.returns-then-kind-n
returns-then-kind-n c = search (rules, count_cases)

pub returns : goal.returns
returns c = search (rules, count_cases)
