-- list_map: the listing of a choice map.
use Rattle.list.proofs.AnswerCases.{text_cases}
use borrow.Author.Rules.{rules}
use Rattle.list.proofs.list_map.Goals as goal

pub returns-then-out-bytes : goal.returns-then-out-bytes
returns-then-out-bytes c = search (rules, text_cases)

pub returns : goal.returns
returns c = search (rules, text_cases)
