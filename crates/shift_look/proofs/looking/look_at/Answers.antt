-- look_at: the limit at these prices; the best sets of all groomers go into a map that has none chosen.
use Rattle.shift_look.proofs.LookCases.{look_cases}
use borrow.Author.Rules.{rules}
use Rattle.shift_look.proofs.looking.look_at.Goals as goal

pub read_back-requires : goal.read_back-requires
read_back-requires c = (search look_cases, search rules)

pub returns-clause-clean_2 : goal.returns-clause-clean_2
returns-clause-clean_2 c = (search rules, search look_cases)
