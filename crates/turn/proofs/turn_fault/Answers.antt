-- turn_fault: the first thing wrong with a turn's values, or 0.
use Rattle.turn.proofs.Faults.{fault_cases}
use borrow.Author.Rules.{rules}
use Rattle.turn.proofs.turn_fault.Goals as goal

pub returns-then-outside_range : goal.returns-then-outside_range
returns-then-outside_range c = search (rules, fault_cases)

pub returns-then-outside_range-2 : goal.returns-then-outside_range-2
returns-then-outside_range-2 c = search (rules, fault_cases)

pub returns-then-past_shift : goal.returns-then-past_shift
returns-then-past_shift c = search (rules, fault_cases)

pub returns-then-outside_range-3 : goal.returns-then-outside_range-3
returns-then-outside_range-3 c = search (rules, fault_cases)

pub returns-then-t-gt-MOST_DRIVER : goal.returns-then-t-gt-MOST_DRIVER
returns-then-t-gt-MOST_DRIVER c = search (rules, fault_cases)

pub returns : goal.returns
returns c = search (rules, fault_cases)
