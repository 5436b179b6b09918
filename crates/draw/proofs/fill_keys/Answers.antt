-- fill_keys: the goals that the laws of the crate answer.
use Rattle.draw.proofs.Drawings.{drawn_keys_cases}
use borrow.Author.Rules.{rules}
use Rattle.draw.proofs.fill_keys.Goals as goal

pub loop-i-preserved : goal.loop-i-preserved
loop-i-preserved c = search (rules, drawn_keys_cases)

pub returns : goal.returns
returns c = search (rules, drawn_keys_cases)
