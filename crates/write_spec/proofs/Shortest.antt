-- No sheet of these counts and turns in this order is shorter than the one that is written, and none of its length is another. Assumes nothing.
use Prim.Native.Nat.{ℕ, ◌≤◌}
use mathlib.Core.Path.{◌≡◌, refl, ◌∙◌, ap, ap₂}
use mathlib.Core.Bool.{Bool}
use mathlib.Core.List.{List, ◌++◌}
use native.Mathlib.Omega.{arith}
use lib.ListN.{length, length-append}
use Rattle.turn.specs.declared.Turn.{Turn}
use Rattle.turn.specs.declared.Counts.{Counts}
use Rattle.wire.specs.Mark.{sheet_mark}
use Rattle.sheet.specs.Kind.{shift_sheet}
use Rattle.sheet.specs.Layout.{record_of, header_for}
use Rattle.write_spec.specs.Write.{map_for, records_of, sheet_of}
use Rattle.sheet.specs.Accepted.{Records, none, more, SheetFor}
use Rattle.sheet.proofs.Fields.{record_length}
use Rattle.write_spec.proofs.WriteMaps.{written_least, map_only}

-- ---- the records

records_least : {limits : Counts} {first : Bool} {p : Turn} {bytes : List ℕ} {ts : List Turn} → Records shift_sheet limits first p bytes ts → length (records_of first p ts) ≤ length bytes
unfolding records_of
records_least none = omega arith
records_least {first = first} {p = p} (more {t = t} {m = m} {bytes = bytes} {ts = ts} map kept fits r) =
    let rest = records_least r in
    let one = written_least first p t m map kept in
    rw (length-append (record_of (map_for first p t) t) (records_of _ t ts), length-append (record_of m t) bytes) (omega (arith, record_length (map_for first p t) t, record_length m t))

records_only : {limits : Counts} {first : Bool} {p : Turn} {bytes : List ℕ} {ts : List Turn} → Records shift_sheet limits first p bytes ts → length bytes ≤ length (records_of first p ts) → bytes ≡ records_of first p ts
unfolding records_of
records_only none h = refl
records_only {first = first} {p = p} (more {t = t} {m = m} {bytes = bytes} {ts = ts} map kept fits r) h =
    let rest = records_least r in
    let one = written_least first p t m map kept in
    let l = simp length-append at h in
    let same = map_only first p t m map kept (omega (arith, record_length (map_for first p t) t, record_length m t)) in
    ap₂ ◌++◌ (ap (λ (k : ℕ). record_of k t) same) (records_only r (omega (arith, record_length (map_for first p t) t, record_length m t)))

-- ---- the sheet

-- no sheet that reads as these counts and turns in this order is shorter
pub shortest : {s : List ℕ} {counts : Counts} {ts : List Turn} → SheetFor shift_sheet s counts ts → length (sheet_of counts ts) ≤ length s
unfolding sheet_of shift_sheet
shortest {s} {counts} {ts} f = rw f.bytes (omega (arith, records_least f.records))

-- and one of that length is the written one, byte for byte
pub shortest_only : {s : List ℕ} {counts : Counts} {ts : List Turn} → SheetFor shift_sheet s counts ts → length s ≡ length (sheet_of counts ts) → s ≡ sheet_of counts ts
unfolding sheet_of shift_sheet
shortest_only {s} {counts} {ts} f e =
    let l = rw f.bytes at e in
    f.bytes ∙ ap (λ (body : List ℕ). header_for sheet_mark counts (length ts) ++ body) (records_only f.records (omega arith))
