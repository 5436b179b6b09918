-- with_bit: a byte with bit k set.
use Rattle.choice_map.proofs.Bytes.{with_bit_byte}
use Rattle.choice_map.proofs.with_bit.Goals as goal

pub returns : goal.returns
returns c = with_bit_byte c.args.x c.args.k c.ranges.x.fits c.requires
