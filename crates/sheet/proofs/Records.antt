-- One record by its cases, each premise in the form in which the code's calls and tests leave it. Assumes nothing.
use Prim.Native.Nat.{ℕ, ◌+◌, ◌-◌, ◌*◌, ◌<◌, ◌≤◌}
use mathlib.Core.Path.{◌≡◌}
use mathlib.Core.Bool.{Bool, true, false, not}
use mathlib.Core.List.{List}
use native.Mathlib.Omega.{arith}
use lib.ListN.{length, get_or}
use lib.Dec.{eqb}
use borrow.Author.Tests.{eq-eqb, ne_eqb, lt-ltb, le-ltb, le-leb, lt-leb}
use Rattle.refusal.specs.Number.{truncated, bad_map}
use Rattle.refusal.specs.Cause.{first_of}
use Rattle.wire.specs.Number.{value_at}
use Rattle.turn.specs.declared.Turn.{Turn}
use Rattle.turn.specs.declared.Counts.{Counts}
use Rattle.turn.specs.Turn.{turn_causes}
use Rattle.sheet.specs.declared.kind.Maps.{Maps}
use Rattle.sheet.specs.Kind.{Kind}
use Rattle.sheet.specs.declared.record.Cursor.{Cursor}
use Rattle.sheet.specs.Record.{width_of, field, turn_from, bad_map_for, end_at, turn_at, cursor_after, record_causes}

-- ---- a field, at every width

module _ (width : ℕ) (s : List ℕ) (at bit old : ℕ) where
  pub field_carried : bit ≡ 0 → old ≡ field width s at bit old
  unfolding field
  field_carried h = rw (eq-eqb bit 0 h)

  pub field_given : {v : ℕ} → (bit ≡ 0 → ⊥) → v ≡ value_at s at width → v ≡ field width s at bit old
  unfolding field
  field_given h e = rw (ne_eqb bit 0 h) e

-- where the bytes end before the field, its bit does not stand
module _ (s : List ℕ) (at bit old : ℕ) where
  pub byte_beyond : length s - at < 1 → at + bit ≤ length s → old ≡ field 1 s at bit old
  byte_beyond l h = field_carried 1 s at bit old (omega arith)

  pub word_beyond : length s - at < 2 → at + 2 * bit ≤ length s → old ≡ field 2 s at bit old
  word_beyond l h = field_carried 2 s at bit old (omega arith)

pub ruleset field_cases = (field_carried, field_given, byte_beyond, word_beyond)

-- ---- a map

module _ (maps : Maps) (first : Bool) (m : ℕ) where
  pub map_above : maps.full < m → true ≡ bad_map_for maps first m
  unfolding bad_map_for
  map_above h = rw (lt-ltb maps.full m h)

  module _ (h : m ≤ maps.full) where
    pub map_later : first ≡ false → false ≡ bad_map_for maps first m
    unfolding bad_map_for
    map_later f = rw (le-ltb maps.full m h, f)

    pub map_least : first ≡ true → m ≡ maps.first → false ≡ bad_map_for maps first m
    unfolding bad_map_for
    map_least f e = rw (le-ltb maps.full m h, f, eq-eqb m maps.first e)

    pub map_other : first ≡ true → (m ≡ maps.first → ⊥) → not (eqb m maps.full) ≡ bad_map_for maps first m
    unfolding bad_map_for
    map_other f n = rw (le-ltb maps.full m h, f, ne_eqb m maps.first n)

pub ruleset map_cases = (map_above, map_later, map_least, map_other)

-- ---- the record at a cursor

module _ (K : Kind) (s : List ℕ) (limits : Counts) (c : Cursor) where
  pub next_no_map : length s ≤ c.at → truncated ≡ first_of (record_causes K s limits c)
  unfolding record_causes first_of
  next_no_map h = rw (le-leb (length s) c.at h)

  module _ {b : Bool} (h : c.at < length s) (e : b ≡ bad_map_for K.maps c.first (get_or s c.at 0)) where
    pub next_bad_map : b ≡ true → bad_map ≡ first_of (record_causes K s limits c)
    unfolding record_causes first_of
    next_bad_map t = rw (lt-leb (length s) c.at h, ← e, t)

    module _ {w : ℕ} (f : b ≡ false) (g : w ≡ width_of (get_or s c.at 0)) where
      pub next_cut : length s < c.at + 1 + w → truncated ≡ first_of (record_causes K s limits c)
      unfolding record_causes first_of end_at
      next_cut k = rw (lt-leb (length s) c.at h, ← e, f, ← g, lt-ltb (length s) (c.at + 1 + w) k)

      module _ {t : Turn} (k : c.at + 1 + w ≤ length s) (p : t ≡ turn_from s (c.at + 1) (get_or s c.at 0) c.prev) where
        pub next_judged : {n : ℕ} → n ≡ first_of (turn_causes K.refusals limits t) → n ≡ first_of (record_causes K s limits c)
        unfolding record_causes first_of end_at turn_at
        next_judged q = rw (lt-leb (length s) c.at h, ← e, f, ← g, le-ltb (length s) (c.at + 1 + w) k, ← p) q

-- what is read, and the cursor behind it
module _ (s : List ℕ) (c : Cursor) {t : Turn} (p : t ≡ turn_from s (c.at + 1) (get_or s c.at 0) c.prev) where
  pub next_turn : t ≡ turn_at s c
  unfolding turn_at
  next_turn = p

  pub next_cursor : {w : ℕ} → w ≡ width_of (get_or s c.at 0) → ◌≡◌ {A = Cursor} (record { at = c.at + 1 + w; first = false; prev = t }) (cursor_after s c)
  unfolding cursor_after end_at turn_at
  next_cursor g = rw (g, p)

pub ruleset next_cases = (next_no_map, next_bad_map, next_cut, next_judged, next_turn, next_cursor)
