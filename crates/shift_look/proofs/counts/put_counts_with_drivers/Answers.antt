-- put_counts_with_drivers: what all turns count for, where some may name a driver; returns the limit's part that is prices.
use Rattle.shift_look.proofs.CountCases.{left_counts}
use Rattle.shift_look.proofs.SumCases.{both_cases}
use borrow.Author.Rules.{rules}
use Rattle.shift_look.proofs.counts.put_counts_with_drivers.Goals as goal

pub returns-clause-counts_to : goal.returns-clause-counts_to
returns-clause-counts_to c = search (rules, left_counts)

pub returns-clause-value : goal.returns-clause-value
returns-clause-value c = (search both_cases, search (rules, both_cases))
