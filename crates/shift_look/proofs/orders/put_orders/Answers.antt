-- put_orders: puts both orders, with what stands beside them.
use Rattle.shift_look.proofs.RunCases.{room_held, room_numbered, orders_held}
use borrow.Author.Rules.{rules}
use Rattle.shift_look.proofs.orders.put_orders.Goals as goal

pub put_drivers-requires : goal.put_drivers-requires
put_drivers-requires c = (room_held _ _ _ c.put_by_drivers.ensures c.requires.0 (search rules), room_numbered _ _ _ c.put_by_drivers.ensures c.requires.2)

pub returns : goal.returns
returns c = search orders_held
