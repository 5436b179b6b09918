-- choices: puts 1 to the place of each turn that the board chooses, and 0 to the others.
use Rattle.corpus.proofs.LineCases.{filled_cases}
use borrow.Author.Rules.{rules}
use Rattle.corpus.proofs.entries.choices.Goals as goal

pub loop-i-init : goal.loop-i-init
loop-i-init c = search (rules, filled_cases)

pub loop-i-preserved : goal.loop-i-preserved
loop-i-preserved c = search (rules, filled_cases)

pub returns : goal.returns
returns c = search (rules, filled_cases)
