-- add_if_meant: chooses window j if the set stays allowed with it; unless any is meant, only one of the kind.
use Rattle.charge.proofs.Allowed.{meant_cases}
use borrow.Author.Rules.{rules}
use Rattle.charge.proofs.choosing.add_if_meant.Goals as goal

pub returns-then-any-own : goal.returns-then-any-own
returns-then-any-own c = search (rules, meant_cases)

pub returns-else-any-own : goal.returns-else-any-own
returns-else-any-own c = search (rules, meant_cases)
