-- number_turn: gives turn t its number; returns the groomers that have a turn then.
use Rattle.assign.proofs.Serving.{numbering_cases}
use borrow.Author.Rules.{rules}
use Rattle.assign.proofs.assigning.number_turn.Goals as goal

pub row_at-row-requires : goal.row_at-row-requires
row_at-row-requires c = search (rules, numbering_cases)

pub overflow_add-until : goal.overflow_add-until
overflow_add-until c = search (rules, numbering_cases)

pub returns-clause-numbers_after : goal.returns-clause-numbers_after
returns-clause-numbers_after c = search (rules, numbering_cases)

pub returns-clause-busy_until_2 : goal.returns-clause-busy_until_2
returns-clause-busy_until_2 c = (search (rules, numbering_cases), search (rules, numbering_cases))
