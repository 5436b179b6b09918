-- low_bit: the lowest bit that stands in a byte, from bit k on; 8 if there is none.
use Prim.Native.Nat.{◌*◌, ◌/◌, ◌%◌, ◌^◌, ◌<◌}
use lib.Count.{trailing_le}
use Rattle.choice_map.proofs.Bytes.{low_byte}
use native.Mathlib.Omega.{arith}
use Rattle.choice_map.proofs.low_bit.Goals as goal

pub returns : goal.returns
returns c =
    let h : c.args.x < 256 = omega arith in
    let k : c.args.k < 8 = omega arith in
    (low_byte c.args.x c.args.k h k, trailing_le 8 (c.args.x / 2 ^ c.args.k * 2 ^ c.args.k % 256))
