-- put_quad: the bytes over the part are those put one after another.
use Rattle.std.proofs.Common.{arith, ◌∙◌}
use native.Mathlib.Nat.{div-one}
use Rattle.wire.specs.Number.{bytes_of}
use Rattle.wire.proofs.Puts.{put_part}
use Rattle.wire.proofs.put_quad.Goals as goal

pub returns : goal.returns
returns c = put_part c.args.out.now (bytes_of 4 c.args.x) c.args.at _ (c.copy_from_slice.ensures.after ∙ c.to_be_bytes.ensures ∙ rw div-one) (omega arith) (omega arith)
