-- choose_free: the same as choose_beside on a list no longer than all windows.
use borrow.Author.Rules.{rules}
use Rattle.charge.proofs.Frees.{kept_cases, kept_chosen}
use Rattle.charge.proofs.choosing.choose_free.Goals as goal

pub choose_beside-requires : goal.choose_beside-requires
choose_beside-requires c = search (rules, kept_cases)

pub returns-clause-map_after : goal.returns-clause-map_after
returns-clause-map_after c = search kept_chosen
