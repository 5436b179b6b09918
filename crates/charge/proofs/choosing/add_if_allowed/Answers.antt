-- add_if_allowed: chooses window j if the set stays allowed.
use Rattle.charge.proofs.Allowed.{allowed_cases}
use borrow.Author.Rules.{rules}
use Rattle.charge.proofs.choosing.add_if_allowed.Goals as goal

pub is_allowed-requires : goal.is_allowed-requires
is_allowed-requires c = search (rules, allowed_cases)

pub use_row-requires : goal.use_row-requires
use_row-requires c = search (rules, allowed_cases)

pub returns-then-is_allowed : goal.returns-then-is_allowed
returns-then-is_allowed c = search (rules, allowed_cases)

pub returns-else-is_allowed : goal.returns-else-is_allowed
returns-else-is_allowed c = search (rules, allowed_cases)
