-- count_payers: the payers of each turn.
use borrow.Author.Rules.{rules}
use Rattle.shift_moves.proofs.PayerCases.{payer_cases}
use Rattle.shift_moves.proofs.count_payers.Goals as goal

pub count_numbers-requires : goal.count_numbers-requires
count_numbers-requires c = search (rules, payer_cases)

pub count_numbers-requires-2 : goal.count_numbers-requires-2
count_numbers-requires-2 c = search (rules, payer_cases)

pub sum_payers-requires : goal.sum_payers-requires
sum_payers-requires c = search (rules, payer_cases)

pub returns : goal.returns
returns c = search (rules, payer_cases)
