-- shift_sheet: a shift's sheet.
use mathlib.Core.Path.{refl}
use Rattle.sheet.specs.Kind.{shift_sheet}
use Rattle.sheet_read.proofs.kind.shift_sheet.Goals as goal

pub returns : goal.returns
unfolding shift_sheet
returns c = refl
