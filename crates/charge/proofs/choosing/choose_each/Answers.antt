-- choose_each: chooses windows of the kind, or any, from the list's last number to its first, into a map that has none chosen.
use native.Mathlib.Omega.{arith}
use borrow.Author.Rules.{rules}
use Rattle.charge_spec.specs.Plan.{fits_among}
use Rattle.hall_steps.specs.OneKind.{kind_hall}
use Rattle.charge.specs.OneKind.{meant}
use Rattle.charge.proofs.Frees.{rest_numbers, parts_cases, parts_chosen}
use Rattle.charge.proofs.choosing.choose_each.Goals as goal

pub choose_beside-requires : goal.choose_beside-requires
choose_beside-requires c = record { hall_held = (search rules, rest_numbers c.args.list.now c.min-later.result (omega arith) c.args.a.size.count c.requires.hall_held.1, search rules); supplied = search (rules, parts_cases) }

pub choose_free-requires : goal.choose_free-requires
choose_free-requires c = search (rules, parts_cases)

pub returns-clause-map_after : goal.returns-clause-map_after
returns-clause-map_after c = parts_chosen c.args.list.now c.min-later.result (omega arith) (fits_among (kind_hall c.args.a c.args.cols.now) (meant c.args.a c.args.any c.args.cols.now)) c.args.a.size.count c.requires.map_value c.choose_beside.ensures.map_after c.choose_free.ensures.map_after
