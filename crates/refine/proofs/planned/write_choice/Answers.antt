-- write_choice: writes another choice and its worth into a board.
use Rattle.refine.proofs.BoardCases.{written_choice}
use Rattle.refine.proofs.planned.write_choice.Goals as goal

pub returns : goal.returns
returns c = search written_choice
