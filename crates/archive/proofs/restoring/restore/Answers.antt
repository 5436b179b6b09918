-- restore: restores the sheet of any bytes as a kept form in any lent bytes.
use mathlib.Core.Path.{refl}
use Rattle.refusal.proofs.Numbers.{no_zero}
use Rattle.archive.proofs.RestoreCases.{restore_fault, restore_small, restore_header, restore_few, restore_whole, restore_end, restore_bytes, restore_done}
use borrow.Author.Rules.{rules}
use Rattle.archive.proofs.restoring.restore.Goals as goal

pub returns-in-Err : goal.returns-in-Err
returns-in-Err c = restore_fault c.args.kept.now c.args.sheet.now c.in-Err.ensures.refused (no_zero c.in-Err.fault) c.refused.ensures

pub returns-then-sheet-kept : goal.returns-then-sheet-kept
returns-then-sheet-kept c = restore_small c.args.kept.now c.args.sheet.now c.in-Ok.ensures.refused refl (search rules) c.refused-then-sheet-kept.ensures

pub word_at-n-requires : goal.word_at-n-requires
word_at-n-requires c = restore_header c.args.kept.now c.args.sheet.now c.in-Ok.ensures.refused refl

pub put_sheet-requires-clause-n_value : goal.put_sheet-requires-clause-n_value
put_sheet-requires-clause-n_value c = (c.word_at-n.ensures, restore_whole c.args.kept.now c.args.sheet.now c.in-Ok.ensures.refused refl, search (rules, restore_few c.args.kept.now c.args.sheet.now c.in-Ok.ensures.refused refl))

pub put_sheet-requires-clause-k_in_bounds : goal.put_sheet-requires-clause-k_in_bounds
put_sheet-requires-clause-k_in_bounds c = search (rules, restore_end c.args.kept.now c.args.sheet.now c.in-Ok.ensures.refused refl)

pub overflow_cast-result : goal.overflow_cast-result
overflow_cast-result c = search (rules, restore_bytes c.args.kept.now c.args.sheet.now c.in-Ok.ensures.refused refl)

pub returns-else-sheet-kept : goal.returns-else-sheet-kept
returns-else-sheet-kept c = restore_done c.args.kept.now c.args.sheet.now c.in-Ok.ensures.refused refl _ c.word_at-n.ensures c.in-Ok.ensures.table_after (search rules) c.put_sheet.ensures
