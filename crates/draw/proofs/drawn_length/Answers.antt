-- drawn_length: a turn's length.
use Rattle.draw_spec.proofs.Draws.{length_first, length_second, length_third, length_fourth}
use native.Mathlib.Omega.{arith}
use Rattle.draw.proofs.drawn_length.Goals as goal

pub returns-in-0-to-39 : goal.returns-in-0-to-39
returns-in-0-to-39 c = length_first _ (omega arith)

pub returns-in-40-to-69 : goal.returns-in-40-to-69
returns-in-40-to-69 c = length_second _ (omega arith) (omega arith)

pub returns-in-70-to-89 : goal.returns-in-70-to-89
returns-in-70-to-89 c = length_third _ (omega arith) (omega arith)

pub returns-in_default : goal.returns-in_default
returns-in_default c = length_fourth _ (omega arith)
