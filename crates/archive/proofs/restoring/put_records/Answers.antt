-- put_records: the goals that the laws of the crate answer.
use Rattle.archive.proofs.RestoreCases.{records_cases}
use borrow.Author.Rules.{rules}
use Rattle.archive.proofs.restoring.put_records.Goals as goal

pub put_record-at-requires : goal.put_record-at-requires
put_record-at-requires c = search (rules, records_cases)

pub loop-i-preserved : goal.loop-i-preserved
loop-i-preserved c = (search rules, search rules, search (rules, records_cases), search (rules, records_cases))

pub returns : goal.returns
returns c = search (rules, records_cases)
