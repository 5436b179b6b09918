-- count_chosen: the ones of each byte are those that the machine counts.
use Rattle.std.proofs.Common.{arith, ◌<◌, slice_index_or}
use Rattle.choice_map.proofs.Bytes.{ones_byte, ones_most}
use Rattle.choice_map.proofs.Maps.{ones_more, ones_done}
use Rattle.choice_map.proofs.count_chosen.Goals as goal

pub loop-byte-preserved : goal.loop-byte-preserved
loop-byte-preserved c =
    let b : slice_index_or c.args.map.now c.loop-byte.byte-index 0 < 256 = (c.type_inv.map c.loop-byte.byte-index).fits in
    (omega arith, omega (arith, ones_most _ b), ones_more c.args.map.now c.loop-byte.byte-index c.loop-byte.sum (omega arith) (ones_byte _ b) c.loop-byte.invariant.2)

pub returns : goal.returns
returns c = ones_done c.args.map.now c.loop-byte.byte-index c.loop-byte.sum (omega arith) (omega arith) c.loop-byte.invariant.2
