-- choose_listed: all windows of a list of numbers, whatever their kind.
use Rattle.charge.proofs.Allowed.{any_chosen}
use Rattle.charge.proofs.choosing.choose_listed.Goals as goal

pub returns-clause-map_after : goal.returns-clause-map_after
returns-clause-map_after c = search any_chosen
