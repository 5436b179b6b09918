-- steps: the part of the board's bytes that holds its steps, empty where it does not open.
use mathlib.Core.Path.{refl}
use Rattle.board_open.proofs.Openings.{part_cases}
use Rattle.board_open.proofs.Parts.{place_cases}
use borrow.Author.Rules.{rules}
use Rattle.board_open.proofs.opening.steps.Goals as goal

pub returns-then-is_malformed-clause-result_value : goal.returns-then-is_malformed-clause-result_value
returns-then-is_malformed-clause-result_value c = search (rules, part_cases)

pub returns-then-is_malformed-clause-lies_at : goal.returns-then-is_malformed-clause-lies_at
returns-then-is_malformed-clause-lies_at c = (refl, search (rules, place_cases))

pub turns-requires : goal.turns-requires
turns-requires c = search (rules, part_cases)

pub slice_bounds-result-count : goal.slice_bounds-result-count
slice_bounds-result-count c = search (rules, part_cases)

pub slice_bounds-result-start : goal.slice_bounds-result-start
slice_bounds-result-start c = search (rules, part_cases)

pub returns-clause-result_value : goal.returns-clause-result_value
returns-clause-result_value c = search (rules, part_cases)

pub returns-clause-lies_at : goal.returns-clause-lies_at
returns-clause-lies_at c = (refl, search (rules, place_cases))
