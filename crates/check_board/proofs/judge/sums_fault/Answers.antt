-- sums_fault: the cause that the sums of a board give, if any.
use Rattle.check_board.proofs.Judgements.{sums_cases}
use borrow.Author.Rules.{rules}
use Rattle.check_board.proofs.judge.sums_fault.Goals as goal

pub returns-then-sums_differ : goal.returns-then-sums_differ
returns-then-sums_differ c = search (rules, sums_cases)

pub returns : goal.returns
returns c = search (rules, sums_cases)
