-- first_cursor: the cursor before the first record.
use Rattle.sheet.specs.Record.{first_cursor}
use mathlib.Core.Path.{refl}
use Rattle.sheet_read.proofs.reading.first_cursor.Goals as goal

pub returns : goal.returns
unfolding first_cursor
returns c = refl
