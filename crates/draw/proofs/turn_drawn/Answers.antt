-- turn_drawn: the turn of five draws.
use Rattle.draw.proofs.Drawings.{turn_of_draws}
use Rattle.draw.proofs.turn_drawn.Goals as goal

pub returns : goal.returns
returns c = search turn_of_draws
