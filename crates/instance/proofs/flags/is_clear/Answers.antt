-- is_clear: whether a slope's flag is clear.
use Rattle.instance.proofs.Flagging.{clear_is}
use Rattle.instance.proofs.flags.is_clear.Goals as goal

pub returns : goal.returns
returns c = search clear_is
