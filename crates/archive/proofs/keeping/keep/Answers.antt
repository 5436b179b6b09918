-- keep: keeps any bytes as a sheet by column in any lent bytes.
use mathlib.Core.Path.{refl, sym}
use Rattle.refusal.proofs.Numbers.{no_zero}
use Rattle.sheet.proofs.Whole.{whole_room_for, whole_rows_for, whole_few}
use Rattle.archive.proofs.KeepCases.{keep_fault, keep_small, keep_header, keep_whole, keep_bytes, keep_done}
use borrow.Author.Rules.{rules}
use Rattle.archive.proofs.keeping.keep.Goals as goal

pub returns-in-Err : goal.returns-in-Err
returns-in-Err c = keep_fault c.args.sheet.now c.args.kept.now c.in-Err.ensures.0 (no_zero c.in-Err.fault) c.refused.ensures

pub returns-then-kept-sheet : goal.returns-then-kept-sheet
returns-then-kept-sheet c = keep_small c.args.sheet.now c.args.kept.now c.in-Ok.ensures.0 refl (search rules) c.refused-then-kept-sheet.ensures

pub slice_bounds-table-end : goal.slice_bounds-table-end
slice_bounds-table-end c = whole_room_for _ _ c.in-Ok.ensures.0 refl _ c.in-Ok.ensures.1

pub slice_bounds-keep_turns-end : goal.slice_bounds-keep_turns-end
slice_bounds-keep_turns-end c = sym (whole_rows_for _ _ c.in-Ok.ensures.0 refl _ c.in-Ok.ensures.1)

pub keep_turns-requires-clause-n_in_bounds : goal.keep_turns-requires-clause-n_in_bounds
keep_turns-requires-clause-n_in_bounds c = (whole_few _ c.in-Ok.ensures.0 refl, keep_header c.args.sheet.now c.args.kept.now c.in-Ok.ensures.0 refl, search (rules, whole_rows_for _ _ c.in-Ok.ensures.0 refl _ c.in-Ok.ensures.1))

pub keep_turns-requires-clause-header_bytes_in_bounds : goal.keep_turns-requires-clause-header_bytes_in_bounds
keep_turns-requires-clause-header_bytes_in_bounds c = (keep_whole c.args.sheet.now c.args.kept.now c.in-Ok.ensures.0 refl, search rules)

pub overflow_cast-result : goal.overflow_cast-result
overflow_cast-result c = search (rules, keep_bytes c.args.sheet.now c.args.kept.now c.in-Ok.ensures.0 refl)

pub returns : goal.returns
returns c = keep_done c.args.sheet.now c.args.kept.now c.in-Ok.ensures.0 refl _ c.in-Ok.ensures.1 (search rules) c.keep_turns.ensures
