-- put_column: the goals that the laws of the crate answer.
use Rattle.archive_spec.proofs.ColumnCases.{size_more, put_more}
use borrow.Author.Rules.{rules}
use Rattle.archive_spec.proofs.ColumnCases.{column_cases}
use Rattle.archive_columns.proofs.put_column.Goals as goal

pub put_field-at-requires : goal.put_field-at-requires
put_field-at-requires c = (search rules, search (rules, column_cases))

pub loop-i-preserved : goal.loop-i-preserved
loop-i-preserved c =
    let put = c.put_field-at.ensures in
    let loop = c.loop-i in
    let a = c.args in
    (search rules, search rules, size_more a.field a.maps.now loop.i _ (search rules) put.0 loop.invariant.2, put_more a.field a.maps.now loop.i _ _ _ (search rules) (search rules) put.0 put.1 loop.invariant.3)

pub returns : goal.returns
returns c = search (rules, column_cases)
