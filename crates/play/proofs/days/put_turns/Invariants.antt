-- `put_turns` meets its contract: the chosen turns, taken by start, make the days.
-- Invariant: the table and the progress are those of the first u-index turns of the order.
use lib.ListN.{take}
use Rattle.choice_map.specs.Choice.{choice_in}
use Rattle.instance.specs.Columns.{turns_by}
use Rattle.play_spec.specs.Day.{delay_in}
use Rattle.play.specs.Table.{RowsPut}
use Rattle.play.proofs.days.put_turns.Given as goal

abbrev pub invariant-loop-u : goal.invariant-loop-u
invariant-loop-u l = RowsPut (turns_by l.fn.p l.cols) (choice_in l.fn.p.count l.map) (delay_in l.delays) (take l.u-index l.order) l.table l.progress
