-- put_by_drivers: copies the columns, with each turn's driver where its groomer stands.
use Rattle.shift_look.proofs.RunCases.{drivers_turns}
use Rattle.shift_look.proofs.orders.put_by_drivers.Goals as goal

pub returns : goal.returns
returns c = search drivers_turns
