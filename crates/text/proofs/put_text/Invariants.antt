-- Invariant: the first bytes of the text are put down; with the rest of it after them the whole would be.
use Prim.Native.Nat.{◌+◌, ◌≤◌}
use mathlib.Core.Path.{◌≡◌}
use lib.ListN.{length, drop}
use Rattle.wire.specs.Number.{puts}
use Rattle.text.proofs.put_text.Given as goal

abbrev pub invariant-loop-byte : goal.invariant-loop-byte
invariant-loop-byte l = (l.byte-index ≤ length l.text) × (l.to ≡ l.at + l.byte-index) × (length l.out ≡ length l.initial.out) × (puts l.out l.to (drop l.byte-index l.text) ≡ puts l.initial.out l.at l.text)
