-- Invariant: what is kept of the list's numbers gone through, and after it what is to be kept of the others, is what is due; no more numbers are kept than gone through.
use Prim.Native.Nat.{◌≤◌}
use mathlib.Core.Path.{◌≡◌}
use mathlib.Core.List.{◌++◌}
use lib.ListN.{length, take, drop}
use Rattle.sheet.specs.Kind.{most_turns}
use Rattle.lists.specs.Lists.{keep}
use Rattle.charge.specs.Supply.{free_in}
use Rattle.charge.proofs.choosing.put_free.Given as goal

abbrev pub invariant-loop-t : goal.invariant-loop-t
invariant-loop-t l = (l.count ≤ l.t-index) × (length l.free ≡ most_turns) × (take l.count l.free ++ keep (free_in l.cols l.used) (drop l.t-index l.list) ≡ keep (free_in l.cols l.used) l.list)
