-- bit: whether bit k of a byte stands.
use Rattle.choice_map.specs.Choice.{bit_of}
use mathlib.Core.Path.{refl}
use Rattle.choice_map.proofs.bit.Goals as goal

pub returns : goal.returns
unfolding bit_of
returns c = refl
