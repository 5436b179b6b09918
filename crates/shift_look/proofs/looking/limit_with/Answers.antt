-- limit_with: the table over the counts; returns the limit.
use Rattle.shift_look.proofs.LookCases.{look_cases}
use Rattle.shift_look.proofs.looking.limit_with.Goals as goal

pub fill_table-requires : goal.fill_table-requires
fill_table-requires c = search look_cases

pub returns-clause-value : goal.returns-clause-value
returns-clause-value c = search look_cases

pub returns-clause-firsts : goal.returns-clause-firsts
returns-clause-firsts c = search look_cases
