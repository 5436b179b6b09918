-- What drawing a sheet hands back where nothing is refused (request R-11). Assumes nothing.
use Rattle.std.specs.Prelude.{ℕ, ◌<◌, ◌≡◌, List, length, get_or}
use Rattle.turn.specs.declared.Turn.{Turn}
use Rattle.turn.specs.declared.Counts.{Counts}
use Rattle.turn.specs.Turn.{rows}
use Rattle.write_spec.specs.Write.{write_of}
use Rattle.write_spec.specs.Promises.{WritePromised}
use Rattle.draw_spec.specs.Draw.{FieldsDrawn}
use Rattle.draw_spec.specs.DrawnSheet.{draw_of}

-- ---- as statements

-- of an answer that refuses nothing
pub record DrawPromised (seed : ℕ) (counts : Counts) (turns : ℕ) (lent : List ℕ) : Type 0 where
  -- the turns in the order in which they are drawn
  pub drawn : List Turn
  -- are as many as asked for
  pub many : length drawn ≡ turns
  -- and each has the values that its five draws give
  pub fields : (k : ℕ) (d : Turn) → k < turns → FieldsDrawn counts seed k (get_or drawn k d)
  -- the answer and the lent bytes are what the writer gives for their table
  pub as_written : draw_of seed counts turns lent ≡ write_of counts (rows drawn) lent
  -- so all holds that the writer promises of the bytes that it wrote
  pub promised : WritePromised counts (rows drawn) lent
