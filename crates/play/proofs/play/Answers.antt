-- play: what is prepared starts the minutes; a round plays one more; after the last the answer stands beside the list.
use Prim.Native.Nat.{◌<◌}
use native.Mathlib.Omega.{arith}
use Rattle.turn.specs.Turn.{shift_minutes}
use Rattle.play_spec.proofs.Moves.{minutes_start, minutes_next, minutes_end}
use Rattle.play.proofs.Rows.{blank_made}
use Rattle.play.proofs.Answers.{play_answer}
use Rattle.play.proofs.play.Goals as goal

-- the table is blank
pub prepare-p-requires : goal.prepare-p-requires
prepare-p-requires c = blank_made

pub loop-m-init : goal.loop-m-init
loop-m-init c = minutes_start c.prepare-p.result.minutes c.prepare-p.result.moved c.args.list.now c.prepare-p.new.table c.prepare-p.ensures.few c.prepare-p.ensures.places_are

pub loop-m-preserved : goal.loop-m-preserved
loop-m-preserved c =
    let day : c.loop-m.m < shift_minutes = omega (arith, c.prepare-p.ensures.most) in
    rw c.minute.ensures (minutes_next c.prepare-p.result.minutes c.prepare-p.result.moved c.args.list.now c.prepare-p.new.table c.loop-m.m c.loop-m.list c.prepare-p.ensures.inside c.loop-m-test.true day c.loop-m.invariant)

pub returns : goal.returns
returns c =
    play_answer c.args.sheet.now c.args.board.now c.args.delays.now c.args.list.now c.prepare-p.result c.prepare-p.new.table c.prepare-p.ensures
    (minutes_end c.prepare-p.result.minutes c.prepare-p.result.moved c.args.list.now c.prepare-p.new.table c.loop-m.m c.loop-m.list c.loop-m-test.false c.loop-m.invariant)
