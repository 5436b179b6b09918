-- How much of its bytes a sheet's refusal is decided by: one byte more than the longest sheet has. Assumes nothing.
use Prim.Native.Nat.{ℕ, zero, suc, ◌+◌, ◌*◌, ◌/◌, ◌%◌, ◌<◌, ◌≤◌}
use mathlib.Core.Path.{◌≡◌, refl, sym, ◌∙◌, ap, ap₂}
use mathlib.Core.List.{List, [], ◌∷◌, ◌++◌}
use native.Mathlib.Omega.{arith}
use native.Mathlib.Decide.{dec_lt, ℕ_discrete}
use lib.ListN.{length, get_or, take}
use lib.Seq.{get_or-take, length-take-le, take_all}
use lib.Dec.{ltb}
use borrow.Author.Tests.{lt-ltb, le-ltb, lt-leb, ltb-false}
use Rattle.refusal.specs.Number.{trailing_bytes}
use Rattle.refusal.specs.Cause.{◌when◌, first_of}
use Rattle.refusal.proofs.Order.{clear_cons, clear_append}
use Rattle.wire.specs.Number.{value_of, bytes_at, value_at}
use Rattle.wire.specs.Mark.{opens_with}
use Rattle.turn.specs.declared.Turn.{Turn}
use Rattle.turn.specs.declared.Counts.{Counts}
use Rattle.sheet.specs.declared.record.Cursor.{Cursor}
use Rattle.sheet.specs.Kind.{Kind, most_turns, shift_sheet, Sound}
use Rattle.sheet.specs.Record.{record_bytes, field, turn_from, map_at, end_at, turn_at, cursor_after, record_causes, first_cursor}
use Rattle.sheet.specs.Read.{header_bytes, counts_in, turn_count, header_causes, records_causes, causes_for, sheet_causes}
use Rattle.sheet.proofs.SoundKinds.{shift_sheet_sound}
use Rattle.sheet.proofs.Headers.{header_numbered, header_few}
use Rattle.sheet.proofs.Scans.{record_numbered}
use Rattle.sheet.proofs.Readings.{sheet_by_header, sheet_by_records}
use Rattle.sheet.proofs.Fields.{width_most}

-- one byte more than the longest sheet has
abbrev pub enough_bytes : ℕ
enough_bytes = header_bytes + record_bytes * most_turns + 1

-- a record is no longer than its map and every field
end_most : (s : List ℕ) (c : Cursor) → end_at s c ≤ c.at + record_bytes
unfolding end_at
end_most s c = omega (arith, width_most (map_at s c))

-- ---- two lists with the same first k bytes, and no fewer

module _ (K : Kind) (k : ℕ) (s t : List ℕ) (same : (i : ℕ) → i < k → get_or t i 0 ≡ get_or s i 0) (long-s : k ≤ length s) (long-t : k ≤ length t) where
  bytes_alike : (width at : ℕ) → at + width ≤ k → bytes_at t at width ≡ bytes_at s at width
  bytes_alike zero at h = refl
  bytes_alike (suc width) at h = ap₂ ◌∷◌ (same at (omega arith)) (bytes_alike width (at + 1) (omega arith))

  value_alike : (at width : ℕ) → at + width ≤ k → value_at t at width ≡ value_at s at width
  value_alike at width h = ap value_of (bytes_alike width at h)

  field_alike : (width at bit old : ℕ) → at + width ≤ k → field width t at bit old ≡ field width s at bit old
  unfolding field
  field_alike width at bit old h = rw (value_alike at width h)

  turn_alike : (at m : ℕ) (old : Turn) → at + record_bytes ≤ k → turn_from t (at + 1) m old ≡ turn_from s (at + 1) m old
  unfolding turn_from
  turn_alike at m old h =
      rw (
        field_alike 1 (at + 1) (m % 2) old.slope (omega arith),
        field_alike 1 (at + 1 + m % 2) (m / 2 % 2) old.groomer (omega arith),
        field_alike 2 (at + 1 + m % 2 + m / 2 % 2) (m / 4 % 2) old.start (omega arith),
        field_alike 2 (at + 1 + m % 2 + m / 2 % 2 + 2 * (m / 4 % 2)) (m / 8 % 2) old.length (omega arith),
        field_alike 2 (at + 1 + m % 2 + m / 2 % 2 + 2 * (m / 4 % 2) + 2 * (m / 8 % 2)) (m / 16 % 2) old.worth (omega arith),
        field_alike 1 (at + 1 + m % 2 + m / 2 % 2 + 2 * (m / 4 % 2) + 2 * (m / 8 % 2) + 2 * (m / 16 % 2)) (m / 32 % 2) old.driver (omega arith),
      )

  -- the record at a cursor, if its bytes are among the first k
  module _ (c : Cursor) (h : c.at + record_bytes ≤ k) where
    map_alike : map_at t c ≡ map_at s c
    map_alike = same c.at (omega arith)

    end_alike : end_at t c ≡ end_at s c
    unfolding end_at
    end_alike = rw map_alike

    read_alike : turn_at t c ≡ turn_at s c
    unfolding turn_at
    read_alike = rw map_alike (turn_alike c.at (map_at s c) c.prev (omega arith))

    cursor_alike : cursor_after t c ≡ cursor_after s c
    unfolding cursor_after
    cursor_alike = rw (end_alike, read_alike)

    record_alike : (limits : Counts) → record_causes K t limits c ≡ record_causes K s limits c
    unfolding record_causes
    record_alike limits =
        rw (
          lt-leb (length t) c.at (omega arith),
          lt-leb (length s) c.at (omega arith),
          map_alike,
          end_alike,
          le-ltb (length t) (end_at s c) (omega (arith, end_most s c)),
          le-ltb (length s) (end_at s c) (omega (arith, end_most s c)),
          read_alike,
        )

  -- after the last record both have bytes left
  records_alike : (n : ℕ) (limits : Counts) (c : Cursor) → c.at + record_bytes * n < k → records_causes K n t limits c ≡ records_causes K n s limits c
  unfolding records_causes cursor_after
  records_alike zero limits c h = rw (lt-ltb c.at (length t) (omega arith), lt-ltb c.at (length s) (omega arith))
  records_alike (suc n) limits c h =
      ap₂ ◌++◌ (record_alike c (omega arith) limits) (ap (records_causes K n t limits) (cursor_alike c (omega arith)) ∙ records_alike n limits (cursor_after s c) (omega (arith, end_most s c)))

  module _ (sound : Sound K) (enough : header_bytes + record_bytes * most_turns < k) where
    counts_alike : counts_in t ≡ counts_in s
    counts_alike = rw (value_alike 3 1 (omega arith), value_alike 4 1 (omega arith))

    count_alike : turn_count t ≡ turn_count s
    count_alike = value_alike 5 2 (omega arith)

    mark_alike : opens_with K.mark t ≡ opens_with K.mark s
    unfolding opens_with
    mark_alike = rw (same 0 (omega arith), same 1 (omega arith), same 2 (omega arith))

    header_alike : header_causes K t ≡ header_causes K s
    unfolding header_causes
    header_alike = rw (le-ltb (length t) header_bytes (omega arith), le-ltb (length s) header_bytes (omega arith), mark_alike, counts_alike, count_alike)

    pub refusal_alike : first_of (causes_for K t) ≡ first_of (causes_for K s)
    unfolding first_cursor
    refusal_alike = go (ℕ_discrete (first_of (header_causes K s)) 0)
      where
        go : Dec (first_of (header_causes K s) ≡ 0) → first_of (causes_for K t) ≡ first_of (causes_for K s)
        go (yes e) =
            let records : records_causes K (turn_count s) t (counts_in s) first_cursor ≡ records_causes K (turn_count s) s (counts_in s) first_cursor = records_alike (turn_count s) (counts_in s) first_cursor (omega (arith, header_few K sound.numbers s e, sound.turns)) in
            sheet_by_records K sound.numbers t (ap first_of header_alike ∙ e) ∙ rw (count_alike, counts_alike, records) (sym (sheet_by_records K sound.numbers s e))
        go (no f) = sheet_by_header K t (first_of (header_causes K s)) (ap first_of header_alike) f ∙ sym (sheet_by_header K s (first_of (header_causes K s)) refl f)

-- ---- a sheet that is not refused is no longer than that

module _ (K : Kind) (sound : Sound K) where
  records_end : (n : ℕ) (s : List ℕ) (limits : Counts) (c : Cursor) → first_of (records_causes K n s limits c) ≡ 0 → length s ≤ c.at + record_bytes * n
  unfolding records_causes cursor_after
  records_end zero s limits c e = omega (arith, ltb-false c.at (length s) (clear_cons (trailing_bytes when ltb c.at (length s)) [] (omega arith) e).0)
  records_end (suc n) s limits c e =
      let rest = (clear_append (record_causes K s limits c) (records_causes K n s limits (cursor_after s c)) (record_numbered K sound.numbers s limits c) e).1 in
      omega (arith, records_end n s limits (cursor_after s c) rest, end_most s c)

  pub sheet_short : (s : List ℕ) → first_of (causes_for K s) ≡ 0 → length s ≤ header_bytes + record_bytes * most_turns
  unfolding causes_for first_cursor
  sheet_short s e =
      let both = clear_append (header_causes K s) (records_causes K (turn_count s) s (counts_in s) first_cursor) (header_numbered K sound.numbers s) e in
      omega (arith, header_few K sound.numbers s both.0, sound.turns, records_end (turn_count s) s (counts_in s) first_cursor both.1)

  -- ---- the first bytes of a list

  pub prefix_refusal_for : (s : List ℕ) → first_of (causes_for K (take enough_bytes s)) ≡ first_of (causes_for K s)
  prefix_refusal_for s = go (dec_lt (length s) enough_bytes)
    where
      go : Dec (length s < enough_bytes) → first_of (causes_for K (take enough_bytes s)) ≡ first_of (causes_for K s)
      go (yes l) = let e : take enough_bytes s ≡ s = take_all enough_bytes s (omega arith) in rw e
      go (no l) =
          refusal_alike K enough_bytes s (take enough_bytes s) (λ i h. get_or-take enough_bytes s i 0 h) (omega arith) (omega (arith, length-take-le enough_bytes s (omega arith))) sound (omega arith)

  pub prefix_same_for : (s : List ℕ) → first_of (causes_for K s) ≡ 0 → take enough_bytes s ≡ s
  prefix_same_for s e = take_all enough_bytes s (omega (arith, sheet_short s e))

-- ---- a shift's sheet

pub prefix_refusal : (s : List ℕ) → first_of (sheet_causes (take enough_bytes s)) ≡ first_of (sheet_causes s)
unfolding sheet_causes
prefix_refusal = prefix_refusal_for shift_sheet shift_sheet_sound

pub prefix_same : (s : List ℕ) → first_of (sheet_causes s) ≡ 0 → take enough_bytes s ≡ s
unfolding sheet_causes
prefix_same = prefix_same_for shift_sheet shift_sheet_sound
