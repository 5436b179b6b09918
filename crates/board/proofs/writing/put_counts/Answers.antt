-- put_counts: the mark, the turns and the steps.
use Rattle.board.proofs.Fronts.{count_put}
use Rattle.board.proofs.writing.put_counts.Goals as goal

pub returns : goal.returns
returns c = search count_put
