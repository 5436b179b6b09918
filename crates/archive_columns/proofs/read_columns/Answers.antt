-- read_columns: reads all columns from a place on into the first rows of a table.
use Rattle.archive_spec.proofs.Across.{columns_read}
use Rattle.archive_spec.proofs.Across.{widths_sum}
use Rattle.archive_spec.proofs.ColumnCases.{laid_cases}
use borrow.Author.Rules.{rules}
use Rattle.archive_columns.proofs.read_columns.Goals as goal

pub read_column-p1-requires : goal.read_column-p1-requires
read_column-p1-requires c = (search laid_cases, search (rules, widths_sum c.args.maps.now), search rules)

pub read_column-p2-requires : goal.read_column-p2-requires
read_column-p2-requires c = (search laid_cases, search (rules, widths_sum c.args.maps.now), search rules)

pub read_column-p3-requires : goal.read_column-p3-requires
read_column-p3-requires c = (search laid_cases, search (rules, widths_sum c.args.maps.now), search rules)

pub read_column-p4-requires : goal.read_column-p4-requires
read_column-p4-requires c = (search laid_cases, search (rules, widths_sum c.args.maps.now), search rules)

pub read_column-p5-requires : goal.read_column-p5-requires
read_column-p5-requires c = (search laid_cases, search (rules, widths_sum c.args.maps.now), search rules)

pub read_column-requires : goal.read_column-requires
read_column-requires c = (search laid_cases, search (rules, widths_sum c.args.maps.now), search rules)

pub returns : goal.returns
returns c =
    let a = c.args in
    let f1 = c.read_column-p1.ensures in
    let f2 = c.read_column-p2.ensures in
    let f3 = c.read_column-p3.ensures in
    let f4 = c.read_column-p4.ensures in
    let f5 = c.read_column-p5.ensures in
    columns_read a.maps.now a.k.now a.from a.table.now c.requires.1 f1.value f1.table_after f2.value f2.table_after f3.value f3.table_after f4.value f4.table_after f5.value f5.table_after c.read_column.ensures.table_after
