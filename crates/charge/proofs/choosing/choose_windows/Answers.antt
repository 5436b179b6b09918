-- choose_windows: going back over m steps, then filling, into a map that has none chosen.
use Rattle.charge.proofs.Allowed.{both_cases}
use borrow.Author.Rules.{rules}
use Rattle.charge.proofs.choosing.choose_windows.Goals as goal

pub choose_each-requires : goal.choose_each-requires
choose_each-requires c = search (rules, both_cases)

pub returns-clause-map_after : goal.returns-clause-map_after
returns-clause-map_after c = search both_cases
