-- A record's bytes and what is read of them: one field over its width, then the whole record. Assumes nothing.
use Prim.Native.Nat.{ℕ, zero, suc, ◌+◌, ◌*◌, ◌/◌, ◌%◌, ◌^◌, ◌<◌, ◌≤◌}
use mathlib.Core.Path.{◌≡◌, refl, sym, ◌∙◌, ap}
use mathlib.Core.List.{List, [], ◌∷◌, ◌++◌, append_assoc}
use native.Mathlib.Omega.{arith}
use native.Mathlib.Numerals.{add-one}
use native.Mathlib.Nat.{mul-zero, mul-one}
use lib.ListN.{length, drop, length-append, length-drop}
use lib.Seq.{drop-cons, drop-drop, drop-append_seam}
use lib.Dec.{leb, ltb}
use borrow.Author.Tests.{lt-leb, le-ltb, ltb-false}
use Rattle.refusal.specs.Number.{truncated, bad_map}
use Rattle.refusal.specs.Cause.{first_of, ◌when◌}
use Rattle.refusal.proofs.Order.{clear_cons}
use Rattle.wire.specs.Number.{Bytes}
use Rattle.wire.proofs.Numbers.{length_bytes, byte_front, value_front, bytes_rest}
use Rattle.turn.specs.declared.Turn.{Turn}
use Rattle.turn.specs.declared.Counts.{Counts}
use Rattle.turn.specs.Turn.{InRange, Numbered}
use Rattle.turn.proofs.Ranges.{in_range_fine, fine_in_range}
use Rattle.sheet.specs.Kind.{Kind}
use Rattle.sheet.specs.declared.record.Cursor.{Cursor}
use Rattle.sheet.specs.Record.{width_of, record_bytes, field, turn_from, bad_map_for, map_at, end_at, turn_at, record_causes}
use Rattle.sheet.specs.Layout.{field_bytes, record_of}
use Rattle.sheet.specs.Accepted.{GoodMap, Carried}
use Rattle.sheet.proofs.MapLaws.{good_map_iff}
use Rattle.sheet.proofs.Records.{field_carried}

-- after what stands at a place
pub drop_front : (vs s : List ℕ) (at : ℕ) (rest : List ℕ) → drop at s ≡ vs ++ rest → drop (at + length vs) s ≡ rest
drop_front vs s at rest e = sym (drop-drop (length vs) at s) ∙ ap (drop (length vs)) e ∙ drop-append_seam vs rest

-- ---- a field, at every width

pub field_length : (bit width v : ℕ) → bit < 2 → length (field_bytes bit width v) ≡ width * bit
field_length zero width v h = sym (mul-zero width)
field_length (suc zero) width v h = length_bytes width v ∙ sym (mul-one width)
field_length (suc (suc bit)) width v h = absurd (omega arith)

-- a field's bytes stand at a place: its value is read there
field_is : (bit width v old : ℕ) (s : List ℕ) (at : ℕ) (rest : List ℕ) → bit < 2 → v < 256 ^ width → (bit ≡ 0 → old ≡ v) → drop at s ≡ field_bytes bit width v ++ rest → field width s at bit old ≡ v
unfolding field
field_is zero width v old s at rest h b k e = k refl
field_is (suc zero) width v old s at rest h b k e = value_front width v s at rest b e
field_is (suc (suc bit)) width v old s at rest h b k e = absurd (omega arith)

-- and the rest stands after it
pub field_read : (bit width v old size : ℕ) (s : List ℕ) (at : ℕ) (rest : List ℕ) → bit < 2 → size ≡ width * bit → v < 256 ^ width → (bit ≡ 0 → old ≡ v) → drop at s ≡ field_bytes bit width v ++ rest
    → (field width s at bit old ≡ v) × (drop (at + size) s ≡ rest)
field_read bit width v old size s at rest h z b k e = (field_is bit width v old s at rest h b k e, rw (z, ← field_length bit width v h) (drop_front (field_bytes bit width v) s at rest e))

-- ---- a record

pub width_most : (m : ℕ) → width_of m < record_bytes
unfolding width_of
width_most m = omega arith

pub record_length : (m : ℕ) (t : Turn) → length (record_of m t) ≡ 1 + width_of m
unfolding record_of width_of
record_length m t =
    simp length-append
    (omega (
      arith,
      field_length (m % 2) 1 t.slope (omega arith),
      field_length (m / 2 % 2) 1 t.groomer (omega arith),
      field_length (m / 4 % 2) 2 t.start (omega arith),
      field_length (m / 8 % 2) 2 t.length (omega arith),
      field_length (m / 16 % 2) 2 t.worth (omega arith),
      field_length (m / 32 % 2) 1 t.driver (omega arith),
    ))

-- a record and what follows it, field by field
six : (a b c d e f r : List ℕ) → (a ++ (b ++ (c ++ (d ++ (e ++ f))))) ++ r ≡ a ++ (b ++ (c ++ (d ++ (e ++ (f ++ r)))))
six a b c d e f r = simp append_assoc

record_append : (m : ℕ) (t : Turn) (rest : List ℕ) → record_of m t ++ rest
    ≡ m ∷ (field_bytes (m % 2) 1 t.slope ++ (field_bytes (m / 2 % 2) 1 t.groomer ++ (field_bytes (m / 4 % 2) 2 t.start ++ (field_bytes (m / 8 % 2) 2 t.length ++ (field_bytes (m / 16 % 2) 2 t.worth ++ (field_bytes (m / 32 % 2) 1 t.driver ++ rest))))))
unfolding record_of
record_append m t rest =
    ap
    (λ (l : List ℕ). m ∷ l)
    (six (field_bytes (m % 2) 1 t.slope) (field_bytes (m / 2 % 2) 1 t.groomer) (field_bytes (m / 4 % 2) 2 t.start) (field_bytes (m / 8 % 2) 2 t.length) (field_bytes (m / 16 % 2) 2 t.worth) (field_bytes (m / 32 % 2) 1 t.driver) rest)

-- the record of a turn stands at a cursor: nothing is wrong with it, the turn is what is read, and the cursor after it stands at the rest
pub record RecordRead (K : Kind) (s : List ℕ) (limits : Counts) (c : Cursor) (t : Turn) (rest : List ℕ) : Type 0 where
  pub record_fine : first_of (record_causes K s limits c) ≡ 0
  pub turn_is : turn_at s c ≡ t
  pub behind : drop (end_at s c) s ≡ rest

module _ (K : Kind) (s : List ℕ) (limits : Counts) (c : Cursor) (m : ℕ) (t : Turn) (rest : List ℕ) (few : limits.groomers ≤ 255) (low : limits.slopes ≤ 255)
    (map : GoodMap K.maps c.first m) (kept : Carried m c.prev t) (fits : InRange limits t) (stands : drop c.at s ≡ record_of m t ++ rest) where
  pub map_is : map_at s c ≡ m
  map_is = byte_front s c.at m _ (stands ∙ record_append m t rest)

  turn_read : (turn_from s (c.at + 1) m c.prev ≡ t) × (drop (c.at + 1 + width_of m) s ≡ rest)
  unfolding turn_from width_of
  turn_read =
      let at = c.at + 1 in
      let e = drop_front (m ∷ []) s c.at _ (stands ∙ record_append m t rest) in
      let slope = field_read (m % 2) 1 t.slope c.prev.slope (m % 2) s at _ (omega arith) (omega arith) (omega arith) kept.slope e in
      let at_1 = at + m % 2 in
      let groomer = field_read (m / 2 % 2) 1 t.groomer c.prev.groomer (m / 2 % 2) s at_1 _ (omega arith) (omega arith) (omega arith) kept.groomer slope.1 in
      let at_2 = at_1 + m / 2 % 2 in
      let start = field_read (m / 4 % 2) 2 t.start c.prev.start (2 * (m / 4 % 2)) s at_2 _ (omega arith) refl (omega arith) kept.start groomer.1 in
      let at_3 = at_2 + 2 * (m / 4 % 2) in
      let len = field_read (m / 8 % 2) 2 t.length c.prev.length (2 * (m / 8 % 2)) s at_3 _ (omega arith) refl (omega arith) kept.length start.1 in
      let at_4 = at_3 + 2 * (m / 8 % 2) in
      let worth = field_read (m / 16 % 2) 2 t.worth c.prev.worth (2 * (m / 16 % 2)) s at_4 _ (omega arith) refl (omega arith) kept.worth len.1 in
      let at_5 = at_4 + 2 * (m / 16 % 2) in
      let driver = field_read (m / 32 % 2) 1 t.driver c.prev.driver (m / 32 % 2) s at_5 rest (omega arith) (omega arith) (omega arith) kept.driver worth.1 in
      let end : c.at + 1 + width_of m ≡ at_5 + m / 32 % 2 = omega arith in
      (λ i. record { slope = slope.0 i; groomer = groomer.0 i; start = start.0 i; length = len.0 i; worth = worth.0 i; driver = driver.0 i }, rw end driver.1)

  pub record_reads : RecordRead K s limits c t rest
  unfolding end_at turn_at record_causes first_of
  record_reads =
      let long : c.at + 1 + width_of m ≤ length s = omega (arith, length-drop c.at s, simp length-append at (ap length stands), record_length m t) in
      let inside : c.at < length s = omega arith in
      record {
        record_fine =
            rw (lt-leb (length s) c.at inside, map_is, (good_map_iff K.maps m c.first).1 map, le-ltb (length s) (c.at + 1 + width_of m) long, turn_read.0)
            (in_range_fine K.refusals limits t fits);
        turn_is = rw map_is turn_read.0;
        behind = rw map_is turn_read.1;
      }

-- ---- the other way: what is read of bytes stands there

-- a field that was read, and then the rest
pub field_stands : (bit width old size : ℕ) {s : List ℕ} → Bytes s → (at : ℕ) → bit < 2 → size ≡ width * bit → at + size ≤ length s → drop at s ≡ field_bytes bit width (field width s at bit old) ++ drop (at + size) s
unfolding field
field_stands zero width old size b at h z l = let e : at + size ≡ at = omega (arith, mul-zero width) in rw e
field_stands (suc zero) width old size b at h z l = let e : size ≡ width = omega (arith, mul-one width) in rw e (bytes_rest b at width (omega arith))
field_stands (suc (suc bit)) width old size b at h z l = absurd (omega arith)

-- nothing is wrong with the record at a cursor: it is the record of the turn that is read, and the rest stands after it
pub record RecordStands (K : Kind) (s : List ℕ) (limits : Counts) (c : Cursor) : Type 0 where
  pub map : GoodMap K.maps c.first (map_at s c)
  pub kept : Carried (map_at s c) c.prev (turn_at s c)
  pub fits : InRange limits (turn_at s c)
  pub bytes : drop c.at s ≡ record_of (map_at s c) (turn_at s c) ++ drop (end_at s c) s

module _ {s : List ℕ} (b : Bytes s) (c : Cursor) where
  turn_stands : end_at s c ≤ length s → drop c.at s ≡ record_of (map_at s c) (turn_at s c) ++ drop (end_at s c) s
  unfolding end_at turn_at turn_from width_of
  turn_stands l =
      let m = map_at s c in
      let at = c.at + 1 in
      let head : drop c.at s ≡ m ∷ drop at s = rw (add-one, drop-cons s c.at 0 (omega arith)) in
      let slope = field_stands (m % 2) 1 c.prev.slope (m % 2) b at (omega arith) (omega arith) (omega arith) in
      let at_1 = at + m % 2 in
      let groomer = field_stands (m / 2 % 2) 1 c.prev.groomer (m / 2 % 2) b at_1 (omega arith) (omega arith) (omega arith) in
      let at_2 = at_1 + m / 2 % 2 in
      let start = field_stands (m / 4 % 2) 2 c.prev.start (2 * (m / 4 % 2)) b at_2 (omega arith) refl (omega arith) in
      let at_3 = at_2 + 2 * (m / 4 % 2) in
      let len = field_stands (m / 8 % 2) 2 c.prev.length (2 * (m / 8 % 2)) b at_3 (omega arith) refl (omega arith) in
      let at_4 = at_3 + 2 * (m / 8 % 2) in
      let worth = field_stands (m / 16 % 2) 2 c.prev.worth (2 * (m / 16 % 2)) b at_4 (omega arith) refl (omega arith) in
      let at_5 = at_4 + 2 * (m / 16 % 2) in
      let driver = field_stands (m / 32 % 2) 1 c.prev.driver (m / 32 % 2) b at_5 (omega arith) (omega arith) (omega arith) in
      let end : c.at + 1 + width_of m ≡ at_5 + m / 32 % 2 = omega arith in
      rw (record_append m (turn_at s c) (drop (c.at + 1 + width_of m) s), head, slope, groomer, start, len, worth, driver, end)

  turn_kept : Carried (map_at s c) c.prev (turn_at s c)
  unfolding turn_at turn_from
  turn_kept =
      let m = map_at s c in
      record {
        slope = field_carried 1 s _ (m % 2) c.prev.slope;
        groomer = field_carried 1 s _ (m / 2 % 2) c.prev.groomer;
        start = field_carried 2 s _ (m / 4 % 2) c.prev.start;
        length = field_carried 2 s _ (m / 8 % 2) c.prev.length;
        worth = field_carried 2 s _ (m / 16 % 2) c.prev.worth;
        driver = field_carried 1 s _ (m / 32 % 2) c.prev.driver;
      }

  pub record_stands : (K : Kind) → Numbered K.refusals → (limits : Counts) → first_of (record_causes K s limits c) ≡ 0 → RecordStands K s limits c
  unfolding record_causes
  record_stands K numbers limits e =
      let p = clear_cons (truncated when leb (length s) c.at) _ (omega arith) e in
      let q = clear_cons (bad_map when bad_map_for K.maps c.first (map_at s c)) _ (omega arith) p.1 in
      let r = clear_cons (truncated when ltb (length s) (end_at s c)) _ (omega arith) q.1 in
      record {
        map = (good_map_iff K.maps (map_at s c) c.first).0 q.0;
        kept = turn_kept;
        fits = fine_in_range K.refusals limits (turn_at s c) numbers r.1;
        bytes = turn_stands (ltb-false (length s) (end_at s c) r.0);
      }
