-- Invariant: the records left have the first cause of all, and their rows after those put down make all rows.
use Rattle.sheet.specs.Kind.{kind_in_numbers}
use Rattle.sheet.specs.Read.{records_causes, turns_from}
use Rattle.turn.specs.Turn.{row_numbers, rows}
use Rattle.wire.specs.Number.{puts}
use Rattle.refusal.specs.Cause.{first_of}
use lib.ListN.{length}
use Prim.Native.Nat.{◌+◌, ◌-◌, ◌*◌, ◌≤◌}
use mathlib.Core.Path.{◌≡◌}
use Rattle.sheet_read.proofs.reading.read_records.Given as goal

abbrev pub invariant-loop-i : goal.invariant-loop-i
invariant-loop-i l = (l.at + row_numbers * (l.n - l.i) ≤ length l.table) × (length l.table ≡ length l.initial.table) × (first_of (records_causes (kind_in_numbers l.kind) (l.n - l.i) l.s l.limits l.c) ≡ first_of (records_causes (kind_in_numbers l.kind) l.n l.s l.limits l.fn.from)) × (puts l.table l.at (rows (turns_from (l.n - l.i) l.s l.c)) ≡ puts l.initial.table 0 (rows (turns_from l.n l.s l.fn.from)))
