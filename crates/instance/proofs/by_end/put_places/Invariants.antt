-- Invariant: the turns at the first i places of the order have these places.
use Rattle.instance.specs.Placing.{PlacesTo}
use lib.ListN.{length}
use mathlib.Core.Path.{◌≡◌}
use Rattle.instance.proofs.by_end.put_places.Given as goal

abbrev pub invariant-loop-i : goal.invariant-loop-i
invariant-loop-i l = (length l.places ≡ length l.initial.places) × PlacesTo l.order l.places l.i
