-- spell: the goals that the laws of the crate answer.
use borrow.Author.Rules.{rules}
use Rattle.text.proofs.Digits.{spell_cases}
use Rattle.text.proofs.spell.Goals as goal

pub loop-rest-preserved : goal.loop-rest-preserved
loop-rest-preserved c = search (rules, spell_cases)

pub returns : goal.returns
returns c = search (rules, spell_cases)
