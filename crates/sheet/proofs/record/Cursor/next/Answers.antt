-- next: the next turn and where the record after it starts, or the first cause to refuse this record.
use Rattle.sheet.proofs.Records.{next_cases}
use borrow.Author.Rules.{rules}
use Rattle.sheet.proofs.record.Cursor.next.Goals as goal

pub returns-then-s-at-clause-refused : goal.returns-then-s-at-clause-refused
returns-then-s-at-clause-refused c = search (rules, next_cases)

pub returns-then-bad_map_for-clause-refused : goal.returns-then-bad_map_for-clause-refused
returns-then-bad_map_for-clause-refused c = search (rules, next_cases)

pub returns-then-s-end-clause-refused : goal.returns-then-s-end-clause-refused
returns-then-s-end-clause-refused c = search (rules, next_cases)

pub returns-in_err-turn_fault-clause-refused : goal.returns-in_err-turn_fault-clause-refused
returns-in_err-turn_fault-clause-refused c = search (rules, next_cases)

pub returns-clause-refused : goal.returns-clause-refused
returns-clause-refused c = search (rules, next_cases)

pub returns-clause-read : goal.returns-clause-read
returns-clause-read c = search (rules, next_cases)
