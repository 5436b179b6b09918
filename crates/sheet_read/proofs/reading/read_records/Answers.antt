-- read_records: the goals that the laws of the crate answer.
use borrow.Author.Rules.{rules}
use Rattle.sheet.specs.Kind.{kind_in_numbers}
use Rattle.sheet.proofs.Scans.{scan_read, scan_refused, scan_row, scan_cases}
use Rattle.refusal.proofs.Numbers.{number_from}
use Rattle.std.proofs.Common.{arith}
use Rattle.std.proofs.lemmas.Result.{err_from_is_err_and}
use Rattle.sheet_read.proofs.reading.read_records.Goals as goal

pub returns-in_err-t-clause-refused : goal.returns-in_err-t-clause-refused
returns-in_err-t-clause-refused c =
    let p = err_from_is_err_and c.from_residual.result c.from_residual.ensures.1 in
    rw (p.1, p.2) (scan_refused (kind_in_numbers c.args.kind) _ _ _ _ _ (λ z. omega (arith, z, number_from c.in_err-t.field-0.0)) c.in_err-t.ensures.refused c.loop-i-test.true c.loop-i.invariant.2)

pub loop-i-preserved : goal.loop-i-preserved
loop-i-preserved c = (
  search rules,
  search rules,
  scan_read _ _ _ _ _ _ c.requires.0 c.in_ok-t.ensures.refused c.in_ok-t.ensures.read.1 c.loop-i-test.true c.loop-i.invariant.2,
  scan_row _ _ _ _ _ _ c.in_ok-t.ensures.read.0 c.in_ok-t.ensures.read.1 c.loop-i-test.true c.put_turn-at.ensures.0 c.put_turn-at.ensures.1 c.loop-i.invariant.3,
)

pub returns-then-c-s-clause-refused : goal.returns-then-c-s-clause-refused
returns-then-c-s-clause-refused c = search (rules, scan_cases)

pub returns-else-c-s-clause-refused : goal.returns-else-c-s-clause-refused
returns-else-c-s-clause-refused c = search (rules, scan_cases)

pub returns-else-c-s-clause-table_after : goal.returns-else-c-s-clause-table_after
returns-else-c-s-clause-table_after c = search (rules, scan_cases)
