-- By which ways two turns conflict, said of their rows. For inner functions only (document 01: turns and when they clash; requests R-2, R-5). Assumes nothing.
use Rattle.std.specs.Prelude.{Bool, ◌&&◌, ◌||◌, ℕ, ◌+◌, ltb, eqb}
use Rattle.model.specs.Turns.{Turns, overlapping}
use Rattle.turn.specs.declared.Turn.{Turn}
use Rattle.instance.specs.declared.ways.Row.{Row}
use Rattle.instance.specs.declared.ways.Ways.{Ways}

-- a turn's row: its end is its start plus its length
unfoldable pub row_for : Turn → Row
row_for t = record { slope = t.slope; groomer = t.groomer; start = t.start; end = t.start + t.length; worth = t.worth; driver = t.driver }

-- the row that turn t of a problem has
unfoldable pub turn_row : Turns → ℕ → Row
turn_row T t = record { slope = T.slope t; groomer = T.groomer t; start = T.start t; end = T.end t; worth = T.worth t; driver = T.driver t }

-- what two turns share, whatever their minutes: the slope, the groomer, a driver other than 0
unfoldable pub shared_of : Row → Row → Ways
shared_of x y = record { slope = eqb x.slope y.slope; groomer = eqb x.groomer y.groomer; driver = ltb 0 x.driver && eqb x.driver y.driver }

-- by which of these they conflict: by the slope always, by the groomer and by the driver where they overlap
unfoldable pub ways_of : ℕ → Row → Row → Ways
ways_of gap x y =
    let shared = shared_of x y in
    let near = overlapping gap x.start x.end y.start y.end in
    record { slope = shared.slope; groomer = shared.groomer && near; driver = shared.driver && near }

-- by any of them
unfoldable pub conflicting : ℕ → Row → Row → Bool
conflicting gap x y = let w = ways_of gap x y in w.slope || (w.groomer || w.driver)
