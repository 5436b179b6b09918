-- improve: a better set than the planned one, within the visits that the input gives.
use mathlib.Core.Path.{◌≡◌, refl, ◌∙◌}
use mathlib.Core.Bool.{Bool, true, false, cond}
use mir.Val.{bool_byte}
use Rattle.corpus.proofs.LineCases.{improve_line_lem}
use Rattle.corpus.proofs.entries.improve.Goals as goal

-- a test as a number
byte_is : (b : Bool) → bool_byte b ≡ cond b 1 0
byte_is true = refl
byte_is false = refl

pub returns : goal.returns
returns c = improve_line_lem c.args.limit.now c.args.sheet.now c.args.map.now c.asked_long.ensures c.improve-a.ensures (c.from.ensures ∙ byte_is c.improve-a.result.whole)
