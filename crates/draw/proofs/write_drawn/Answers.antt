-- write_drawn: what the writer makes of n drawn turns, which need not be judged.
use Rattle.draw.proofs.Drawings.{drawn_put}
use Rattle.draw.proofs.write_drawn.Goals as goal

pub returns : goal.returns
returns c = search drawn_put
