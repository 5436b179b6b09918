-- put_columns: writes all columns of a table's turns, one after another, from a place on; returns the place after them.
use Rattle.turn.proofs.Rows.{table_turns_length}
use Rattle.archive_spec.proofs.Across.{columns_put}
use Rattle.archive_spec.proofs.Across.{widths_sum}
use Rattle.archive_spec.proofs.ColumnCases.{laid_cases}
use borrow.Author.Rules.{rules}
use Rattle.archive_columns.proofs.put_columns.Goals as goal

pub put_column-p1-requires : goal.put_column-p1-requires
put_column-p1-requires c = (search laid_cases, search (rules, widths_sum c.args.maps.now), search rules)

pub put_column-p2-requires : goal.put_column-p2-requires
put_column-p2-requires c = (search laid_cases, search (rules, widths_sum c.args.maps.now), search rules)

pub put_column-p3-requires : goal.put_column-p3-requires
put_column-p3-requires c = (search laid_cases, search (rules, widths_sum c.args.maps.now), search rules)

pub put_column-p4-requires : goal.put_column-p4-requires
put_column-p4-requires c = (search laid_cases, search (rules, widths_sum c.args.maps.now), search rules)

pub put_column-p5-requires : goal.put_column-p5-requires
put_column-p5-requires c = (search laid_cases, search (rules, widths_sum c.args.maps.now), search rules)

pub put_column-requires : goal.put_column-requires
put_column-requires c = (search laid_cases, search (rules, widths_sum c.args.maps.now), search rules)

pub returns : goal.returns
returns c =
    let a = c.args in
    let f1 = c.put_column-p1.ensures in
    let f2 = c.put_column-p2.ensures in
    let f3 = c.put_column-p3.ensures in
    let f4 = c.put_column-p4.ensures in
    let f5 = c.put_column-p5.ensures in
    columns_put a.out.now a.maps.now _ a.from (table_turns_length _ _ _) f1.value f1.out_after f2.value f2.out_after f3.value f3.out_after f4.value f4.out_after f5.value f5.out_after c.put_column.ensures.out_after
