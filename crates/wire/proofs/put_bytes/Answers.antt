-- put_bytes: the bytes over the part are those put one after another.
use Rattle.std.proofs.Common.{arith}
use Rattle.wire.proofs.Puts.{put_part}
use Rattle.wire.proofs.put_bytes.Goals as goal

pub returns : goal.returns
returns c = put_part c.args.out.now c.args.bytes.now c.args.at _ c.copy_from_slice.ensures.after (omega arith) (omega arith)
