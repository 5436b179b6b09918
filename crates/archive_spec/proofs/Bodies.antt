-- Maps and turns that go together: their bytes in both forms, how long these are, and what is read of them. Assumes nothing.
use Prim.Native.Nat.{ℕ, suc, ◌+◌, ◌/◌, ◌%◌, ◌≤◌}
use mathlib.Core.Path.{◌≡◌, refl, ◌∙◌, ap}
use mathlib.Core.Bool.{Bool, true, false}
use mathlib.Core.List.{List, [], ◌∷◌, ◌++◌}
use native.Mathlib.Omega.{arith}
use native.Mathlib.Nat.{div-one}
use lib.ListN.{length, get_or, drop, length-append}
use Rattle.refusal.specs.Number.{bad_map}
use Rattle.refusal.specs.Cause.{◌when◌, first_of}
use Rattle.refusal.proofs.Order.{numbered, first_goes, clear_cons, clear_append}
use Rattle.wire.proofs.Numbers.{byte_front}
use Rattle.turn.specs.declared.Turn.{Turn}
use Rattle.turn.specs.declared.Counts.{Counts}
use Rattle.turn.specs.Turn.{turn_causes}
use Rattle.turn.proofs.Ranges.{in_range_fine, fine_in_range, turn_numbered}
use Rattle.sheet.specs.declared.kind.Maps.{Maps}
use Rattle.sheet.specs.Kind.{shift_sheet}
use Rattle.sheet.specs.Record.{width_of, bad_map_for}
use Rattle.sheet.specs.Layout.{record_of}
use Rattle.sheet.specs.Accepted.{Records}
use Rattle.sheet.specs.Accepted as sheet
use Rattle.sheet.proofs.SoundKinds.{shift_sheet_sound}
use Rattle.sheet.proofs.MapLaws.{good_map_iff}
use Rattle.sheet.proofs.Fields.{drop_front, record_length}
use Rattle.write_spec.specs.Write.{turns_causes}
use Rattle.archive_spec.specs.Column.{slopes, groomers, starts, lengths, worths, drivers, values_of, column_of, column_size, widths, columns_of, Columns, turn_across, turns_across}
use Rattle.archive_spec.specs.declared.Field.{Field}
use Rattle.archive_spec.proofs.Across.{column_length, values_length, widths_sum}
use Rattle.archive_spec.proofs.Resolved.{Follows, Going, going_next}
use Rattle.archive_spec.proofs.Resolved as resolved
use Rattle.archive_spec.specs.Kept.{records_body, columns_body, maps_from}
use Rattle.archive_spec.specs.Archive.{maps_causes}
use Rattle.archive_spec.specs.AcceptedKept.{Together, none, more}

-- ---- lengths

pub together_length : {limits : Counts} {first : Bool} {p : Turn} {ms : List ℕ} {ts : List Turn} → Together limits first p ms ts → length ts ≡ length ms
together_length none = refl
together_length (more map kept fits r) = ap suc (together_length r)

pub records_length : (ms : List ℕ) (ts : List Turn) → length ts ≡ length ms → length (records_body ms ts) ≡ length ms + widths ms
unfolding records_body widths
records_length [] ts e = refl
records_length (m ∷ ms) [] e = absurd (omega arith)
records_length (m ∷ ms) (t ∷ ts) e = length-append (record_of m t) (records_body ms ts) ∙ omega (arith, record_length m t, records_length ms ts (omega arith))

pub columns_length : (ms : List ℕ) (ts : List Turn) → length ts ≡ length ms → length (columns_body ms ts) ≡ length ms + widths ms
unfolding columns_body columns_of
columns_length ms ts e =
    let long : (F : Field) → length (column_of F ms (values_of F ts)) ≡ column_size F ms = λ F. column_length F ms (values_of F ts) (values_length F ts ∙ e) in
    simp length-append (omega (arith, widths_sum ms, long slopes, long groomers, long starts, long lengths, long worths, long drivers))

-- ---- in a sheet

pub together_records : {limits : Counts} {first : Bool} {p : Turn} {ms : List ℕ} {ts : List Turn} → Together limits first p ms ts → Records shift_sheet limits first p (records_body ms ts) ts
unfolding records_body
together_records none = sheet.none
together_records (more map kept fits r) = sheet.more map kept fits (together_records r)

-- records are some maps with the turns
pub record Mapped (limits : Counts) (first : Bool) (p : Turn) (bytes : List ℕ) (ts : List Turn) : Type 0 where
  pub maps : List ℕ
  pub together : Together limits first p maps ts
  pub body : bytes ≡ records_body maps ts

pub records_mapped : {limits : Counts} {first : Bool} {p : Turn} {bytes : List ℕ} {ts : List Turn} → Records shift_sheet limits first p bytes ts → Mapped limits first p bytes ts
unfolding records_body
records_mapped sheet.none = record { maps = []; together = none; body = refl }
records_mapped (sheet.more {t = t} {m = m} map kept fits r) =
    let rest = records_mapped r in
    record { maps = m ∷ rest.maps; together = more map kept fits rest.together; body = ap (λ (l : List ℕ). record_of m t ++ l) rest.body }

-- the maps of records that stand at a place are read there
record_at : (m : ℕ) (t : Turn) (rest s : List ℕ) (at : ℕ) → drop at s ≡ record_of m t ++ rest → (get_or s at 0 ≡ m) × (drop (at + 1 + width_of m) s ≡ rest)
unfolding record_of
record_at m t rest s at e =
    let p : at + 1 + width_of m ≡ at + length (record_of m t) = omega (arith, record_length m t) in
    (byte_front s at m _ e, rw p (drop_front (record_of m t) s at rest e))

pub maps_read : (ms : List ℕ) (ts : List Turn) (s : List ℕ) (at : ℕ) → length ts ≡ length ms → drop at s ≡ records_body ms ts → maps_from (length ms) s at ≡ ms
unfolding records_body maps_from
maps_read [] ts s at l e = refl
maps_read (m ∷ ms) [] s at l e = absurd (omega arith)
maps_read (m ∷ ms) (t ∷ ts) s at l e =
    let one = record_at m t (records_body ms ts) s at e in
    rw one.0 (ap (λ (r : List ℕ). m ∷ r) (maps_read ms ts s (at + 1 + width_of m) (omega arith) one.1))

-- ---- in columns

-- the values of each field
pub record AllFollow (p : Turn) (ms : List ℕ) (ts : List Turn) : Type 0 where
  pub slope : Follows slopes p.slope ms (values_of slopes ts)
  pub groomer : Follows groomers p.groomer ms (values_of groomers ts)
  pub start : Follows starts p.start ms (values_of starts ts)
  pub length : Follows lengths p.length ms (values_of lengths ts)
  pub worth : Follows worths p.worth ms (values_of worths ts)
  pub driver : Follows drivers p.driver ms (values_of drivers ts)

pub all_follow : {limits : Counts} {first : Bool} {p : Turn} {ms : List ℕ} {ts : List Turn} → Together limits first p ms ts → limits.groomers ≤ 255 → limits.slopes ≤ 255 → AllFollow p ms ts
unfolding values_of
all_follow none few low = record { slope = resolved.none; groomer = resolved.none; start = resolved.none; length = resolved.none; worth = resolved.none; driver = resolved.none }
all_follow (more {t = t} {m = m} map kept fits r) few low =
    let rest = all_follow r few low in
    record {
      slope = resolved.more {m = m} {v = t.slope} (omega (arith, fits.slope_to)) (λ (z : m / 1 % 2 ≡ 0). kept.slope (rw (div-one m) at z)) rest.slope;
      groomer = resolved.more {m = m} {v = t.groomer} (omega (arith, fits.groomer_to)) kept.groomer rest.groomer;
      start = resolved.more {m = m} {v = t.start} (omega (arith, fits.end_to)) kept.start rest.start;
      length = resolved.more {m = m} {v = t.length} (omega (arith, fits.end_to)) kept.length rest.length;
      worth = resolved.more {m = m} {v = t.worth} (omega (arith, fits.worth_to)) kept.worth rest.worth;
      driver = resolved.more {m = m} {v = t.driver} (omega (arith, fits.driver_to)) kept.driver rest.driver;
    }

-- ---- nothing is wrong with them

pub maps_numbered : (maps : Maps) (first : Bool) (ms : List ℕ) → numbered (maps_causes maps first ms) ≡ true
unfolding maps_causes
maps_numbered maps first [] = refl
maps_numbered maps first (m ∷ ms) = maps_numbered maps false ms

pub maps_clear : {limits : Counts} {first : Bool} {p : Turn} {ms : List ℕ} {ts : List Turn} → Together limits first p ms ts → first_of (maps_causes shift_sheet.maps first ms) ≡ 0
unfolding maps_causes first_of
maps_clear none = refl
maps_clear {first = first} (more {m = m} map kept fits r) = rw ((good_map_iff shift_sheet.maps m first).1 map) (maps_clear r)

pub turns_clear : {limits : Counts} {first : Bool} {p : Turn} {ms : List ℕ} {ts : List Turn} → Together limits first p ms ts → first_of (turns_causes shift_sheet.refusals limits ts) ≡ 0
unfolding turns_causes first_of
turns_clear none = refl
turns_clear {limits} (more {t = t} map kept fits r) =
    first_goes (turn_causes shift_sheet.refusals limits t) _ (turn_numbered shift_sheet.refusals limits t shift_sheet_sound.numbers) (in_range_fine shift_sheet.refusals limits t fits) ∙ turns_clear r

-- and the other way: maps and turns read from columns with which nothing is wrong go together
pub together_read : (C : Columns) (s : List ℕ) (limits : Counts) (ms : List ℕ) (i : ℕ) (first : Bool) (p : Turn) → Going C i ms s p → first_of (maps_causes shift_sheet.maps first ms) ≡ 0
    → first_of (turns_causes shift_sheet.refusals limits (turns_across (length ms) C i)) ≡ 0 → Together limits first p ms (turns_across (length ms) C i)
unfolding maps_causes turns_causes turns_across
together_read C s limits [] i first p g e f = none
together_read C s limits (m ∷ ms) i first p g e f =
    let t = turn_across C i in
    let map = clear_cons (bad_map when bad_map_for shift_sheet.maps first m) (maps_causes shift_sheet.maps false ms) (omega arith) e in
    let turn = clear_append (turn_causes shift_sheet.refusals limits t) (turns_causes shift_sheet.refusals limits (turns_across (length ms) C (i + 1))) (turn_numbered shift_sheet.refusals limits t shift_sheet_sound.numbers) f in
    let next = going_next C i m ms s p g in
    more ((good_map_iff shift_sheet.maps m first).0 map.0) next.0 (fine_in_range shift_sheet.refusals limits t shift_sheet_sound.numbers turn.0) (together_read C s limits ms (i + 1) false t next.1 map.1 turn.1)
