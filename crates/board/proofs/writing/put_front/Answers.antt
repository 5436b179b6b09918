-- put_front: writes what stands before m steps that are written already: the header, with their sum, and the map.
use Rattle.board.proofs.Fronts.{front_put}
use Rattle.board.proofs.writing.put_front.Goals as goal

pub returns : goal.returns
returns c = search front_put
