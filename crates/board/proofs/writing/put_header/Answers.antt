-- put_header: puts the header's fields at their places.
use Rattle.board.proofs.Fronts.{head_put}
use Rattle.board.proofs.writing.put_header.Goals as goal

pub returns : goal.returns
returns c = search head_put
