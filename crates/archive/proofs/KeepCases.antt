-- From a sheet to its kept form by cases, each premise in the form in which the code's calls and tests leave it. Assumes nothing.
use Prim.Native.Nat.{ℕ, zero, suc, ◌+◌, ◌-◌, ◌*◌, ◌<◌, ◌≤◌}
use mathlib.Core.Path.{◌≡◌, refl, sym, ◌∙◌, ap, ap₂}
use mathlib.Core.List.{List, [], ◌∷◌, ◌++◌, append-nil}
use native.Mathlib.Omega.{arith}
use lib.Dec.{ltb, leb}
use lib.ListN.{length, get_or, set, take, drop}
use lib.Seq.{drop-length, length-take-le}
use borrow.Author.Tests.{ltb-false}
use Rattle.refusal.specs.Number.{truncated, bad_map, buffer_too_small, trailing_bytes}
use Rattle.refusal.specs.Cause.{◌when◌, first_of}
use Rattle.refusal.specs.Written.{at_front}
use Rattle.refusal.proofs.Order.{clear_cons, clear_append}
use Rattle.refusal.proofs.Written.{kept_before, kept_small, wrote_enough}
use Rattle.wire.specs.Number.{bytes_at, puts}
use Rattle.wire.specs.Mark.{kept_mark}
use Rattle.wire.proofs.Numbers.{bytes_at_part}
use Rattle.wire.proofs.Puts.{puts_front, puts_append}
use Rattle.turn.specs.declared.Turn.{Turn}
use Rattle.turn.specs.declared.Counts.{Counts}
use Rattle.turn.specs.Turn.{row_numbers, rows, turns_of_table, table_rows}
use Rattle.turn.proofs.Rows.{rows_length, turns_rows}
use Rattle.sheet.specs.declared.answer.ReadAnswer.{ReadAnswer}
use Rattle.sheet.specs.declared.record.Cursor.{Cursor}
use Rattle.sheet.specs.Kind.{shift_sheet, most_turns}
use Rattle.sheet.specs.Record.{width_of, bad_map_for, map_at, end_at, cursor_after, first_cursor, record_bytes, record_causes}
use Rattle.sheet.specs.Read.{header_bytes, counts_in, turn_count, turns_of, table_of, header_causes, records_causes, causes_for, sheet_causes, answer_of}
use Rattle.sheet.proofs.SoundKinds.{shift_sheet_sound}
use Rattle.sheet.proofs.Headers.{header_numbered, header_fine}
use Rattle.sheet.proofs.Scans.{record_numbered}
use Rattle.sheet.proofs.Readings.{sheet_numbered}
use Rattle.sheet.proofs.Tables.{turns_length}
use Rattle.sheet.proofs.Whole.{whole_refusal, whole_accepted, whole_turns_for, whole_table_for}
use Rattle.sheet.proofs.Prefix.{sheet_short}
use Rattle.refusal.specs.declared.WriteAnswer.{WriteAnswer}
use Rattle.refusal.specs.Outcome.{beside}
use Rattle.archive_spec.specs.Column.{widths, columns_of}
use Rattle.archive_spec.specs.Kept.{form_with, columns_body, maps_from, sheet_maps, kept_of}
use Rattle.archive_spec.specs.Archive.{keep_causes, keep_of}
use Rattle.archive_spec.proofs.Bodies.{columns_length}

-- ---- the front

pub front_put : (l from mark : List ℕ) {l1 l2 : List ℕ} → header_bytes ≤ length from → l1 ≡ puts l 0 (bytes_at mark 0 3) → l2 ≡ puts l1 3 (take 4 (drop 3 from)) → l2 ≡ puts l 0 (bytes_at mark 0 3 ++ bytes_at from 3 4)
front_put l from mark h e f = f ∙ rw (e, ← bytes_at_part from 3 4 (omega arith)) (puts_append (bytes_at mark 0 3) (bytes_at from 3 4) l 0 3 refl)

-- ---- the maps

maps_step : (n i : ℕ) (s : List ℕ) (at : ℕ) → i < n → maps_from (n - i) s at ≡ get_or s at 0 ∷ maps_from (n - (i + 1)) s (at + 1 + width_of (get_or s at 0))
unfolding maps_from
maps_step n i s at h = let k : n - i ≡ suc (n - (i + 1)) = omega arith in rw k

module _ (s : List ℕ) (n i at : ℕ) where
  fill_more : i < n → widths (maps_from (n - i) s at) ≡ width_of (get_or s at 0) + widths (maps_from (n - (i + 1)) s (at + 1 + width_of (get_or s at 0)))
  unfolding widths
  fill_more h = rw (maps_step n i s at h)

  pub fill_inside : {k : ℕ} → i < k → k ≡ n → at + (n - i) + widths (maps_from (n - i) s at) ≤ length s → at < length s
  fill_inside h e r = omega arith

  pub fill_room : {k w : ℕ} → i < k → k ≡ n → w ≡ width_of (get_or s at 0) → at + (n - i) + widths (maps_from (n - i) s at) ≤ length s
      → at + 1 + w + (n - (i + 1)) + widths (maps_from (n - (i + 1)) s (at + 1 + w)) ≤ length s
  fill_room {w = w} h e p r = let q : i < n = omega arith in rw p (omega (arith, fill_more q))

  pub fill_next : (l : List ℕ) {w : ℕ} {z : List ℕ} → i < length l → length l ≡ n → w ≡ width_of (get_or s at 0) → puts l i (maps_from (n - i) s at) ≡ z
      → puts (set l i (get_or s at 0)) (i + 1) (maps_from (n - (i + 1)) s (at + 1 + w)) ≡ z
  fill_next l h e p q = let r : i < n = omega arith in rw p (rw (maps_step n i s at r) at q)

pub fill_start : (s l : List ℕ) → puts l 0 (maps_from (length l - 0) s header_bytes) ≡ puts l 0 (maps_from (length l) s header_bytes)
fill_start s l = let z : length l - 0 ≡ length l = omega arith in rw z

pub fill_first : (s : List ℕ) (n : ℕ) → header_bytes + n + widths (maps_from n s header_bytes) ≤ length s → header_bytes + (n - 0) + widths (maps_from (n - 0) s header_bytes) ≤ length s
fill_first s n h = let z : n - 0 ≡ n = omega arith in rw z h

pub maps_from_length : (n : ℕ) (s : List ℕ) (at : ℕ) → length (maps_from n s at) ≡ n
unfolding maps_from
maps_from_length zero s at = refl
maps_from_length (suc n) s at = ap suc (maps_from_length n s (at + 1 + width_of (get_or s at 0)))

pub fill_done : (s l l0 : List ℕ) (i at : ℕ) → length l ≤ i → length l ≡ length l0 → puts l i (maps_from (length l0 - i) s at) ≡ puts l0 0 (maps_from (length l0) s header_bytes) → l ≡ maps_from (length l0) s header_bytes
unfolding maps_from
fill_done s l l0 i at h e q =
    let z : length l0 - i ≡ 0 = omega arith in
    let n = maps_from_length (length l0) s header_bytes in
    (rw z at q) ∙ puts_front (maps_from (length l0) s header_bytes) l0 (omega (arith, n)) ∙ rw (n, drop-length l0) (append-nil (maps_from (length l0) s header_bytes))

pub ruleset fill_cases = (fill_inside, fill_room, fill_next, fill_start, fill_first, fill_done)

-- ---- the kept form

pub kept_put : (l s maps : List ℕ) (ts : List Turn) {l1 l2 l3 : List ℕ} → l1 ≡ puts l 0 (bytes_at kept_mark 0 3 ++ bytes_at s 3 4) → l2 ≡ puts l1 header_bytes maps → l3 ≡ puts l2 (header_bytes + length maps) (columns_of maps ts)
    → l3 ≡ puts l 0 (form_with kept_mark s (columns_body maps ts))
unfolding columns_body
kept_put l s maps ts {l1} {l2} {l3} e f g =
    let front = bytes_at kept_mark 0 3 ++ bytes_at s 3 4 in
    let cols = columns_of maps ts in
    let p : puts (puts l1 header_bytes maps) (header_bytes + length maps) cols ≡ puts l1 header_bytes (maps ++ cols) = puts_append maps cols l1 header_bytes (header_bytes + length maps) refl in
    let q : puts (puts l 0 front) header_bytes (maps ++ cols) ≡ puts l 0 (front ++ (maps ++ cols)) = puts_append front (maps ++ cols) l 0 header_bytes refl in
    g ∙ ap (λ (x : List ℕ). puts x (header_bytes + length maps) cols) f ∙ p ∙ ap (λ (x : List ℕ). puts x header_bytes (maps ++ cols)) e ∙ q

-- the lent places for the maps, of which the first n are taken
module _ (s maps : List ℕ) (n : ℕ) (h : n ≤ length maps) where
  part_length : length (take (n - 0) maps) ≡ n
  part_length = let z : n - 0 ≡ n = omega arith in rw z (length-take-le n maps h)

  pub part_room : header_bytes + n + widths (maps_from n s header_bytes) ≤ length s → header_bytes + length (take (n - 0) maps) + widths (maps_from (length (take (n - 0) maps)) s header_bytes) ≤ length s
  part_room r = rw part_length r

  module _ {u : List ℕ} (e : u ≡ maps_from (length (take (n - 0) maps)) s header_bytes) where
    pub filled_is : u ≡ maps_from n s header_bytes
    filled_is = e ∙ rw part_length

    pub filled_length : length u ≡ n
    filled_length = ap length filled_is ∙ maps_from_length n s header_bytes

    pub kept_fits : {o : ℕ} → header_bytes + n + widths (maps_from n s header_bytes) ≤ length s → length s ≤ o → header_bytes + length u + widths u ≤ o
    kept_fits r q = let w : widths u ≡ widths (maps_from n s header_bytes) = ap widths filled_is in omega (arith, filled_length)

    pub kept_rows : {t : ℕ} → row_numbers * n ≤ t → row_numbers * length u ≤ t
    kept_rows r = omega (arith, filled_length)

pub turns_kept : (l s : List ℕ) (table maps : List ℕ) (n : ℕ) {l1 : List ℕ} → maps ≡ maps_from n s header_bytes → length maps ≡ n → l1 ≡ puts l 0 (form_with kept_mark s (columns_body maps (turns_of_table (length maps) table 0)))
    → l1 ≡ puts l 0 (form_with kept_mark s (columns_body (maps_from n s header_bytes) (turns_of_table n table 0)))
turns_kept l s table maps n e f g = g ∙ ap₂ (λ (x : List ℕ) (k : ℕ). puts l 0 (form_with kept_mark s (columns_body x (turns_of_table k table 0)))) e f

-- ---- an accepted sheet is as long as its maps say

record_ends : (s : List ℕ) (limits : Counts) (c : Cursor) → first_of (record_causes shift_sheet s limits c) ≡ 0 → end_at s c ≤ length s
unfolding record_causes
record_ends s limits c e =
    let p = clear_cons (truncated when leb (length s) c.at) _ (omega arith) e in
    let q = clear_cons (bad_map when bad_map_for shift_sheet.maps c.first (map_at s c)) _ (omega arith) p.1 in
    let r = clear_cons (truncated when ltb (length s) (end_at s c)) _ (omega arith) q.1 in
    ltb-false (length s) (end_at s c) r.0

records_long : (n : ℕ) (s : List ℕ) (limits : Counts) (c : Cursor) → first_of (records_causes shift_sheet n s limits c) ≡ 0 → c.at ≤ length s → length s ≡ c.at + n + widths (maps_from n s c.at)
unfolding records_causes maps_from widths cursor_after end_at
records_long zero s limits c e h = omega (arith, ltb-false c.at (length s) (clear_cons (trailing_bytes when ltb c.at (length s)) [] (omega arith) e).0)
records_long (suc n) s limits c e h =
    let both = clear_append (record_causes shift_sheet s limits c) (records_causes shift_sheet n s limits (cursor_after s c)) (record_numbered shift_sheet shift_sheet_sound.numbers s limits c) e in
    let fits = record_ends s limits c both.0 in
    omega (arith, records_long n s limits (cursor_after s c) both.1 fits)

pub sheet_whole : (s : List ℕ) → first_of (sheet_causes s) ≡ 0 → (header_bytes ≤ length s) × (length s ≡ header_bytes + turn_count s + widths (maps_from (turn_count s) s header_bytes))
unfolding sheet_causes causes_for first_cursor
sheet_whole s e =
    let both = clear_append (header_causes shift_sheet s) (records_causes shift_sheet (turn_count s) s (counts_in s) first_cursor) (header_numbered shift_sheet shift_sheet_sound.numbers s) e in
    let whole = (header_fine shift_sheet shift_sheet_sound.numbers s both.0).whole in
    (whole, records_long (turn_count s) s (counts_in s) first_cursor both.1 whole)

kept_size : (s : List ℕ) → first_of (sheet_causes s) ≡ 0 → length (kept_of s) ≡ length s
unfolding kept_of sheet_maps
kept_size s e =
    let n = maps_from_length (turn_count s) s header_bytes in
    let t = turns_length s in
    omega (arith, (sheet_whole s e).1, columns_length (maps_from (turn_count s) s header_bytes) (turns_of s) (t ∙ sym n), n)

sheet_bytes : (s : List ℕ) → first_of (sheet_causes s) ≡ 0 → length s ≤ header_bytes + record_bytes * most_turns
unfolding sheet_causes
sheet_bytes = sheet_short shift_sheet shift_sheet_sound

-- ---- the entry

module _ (s lent : List ℕ) {a : ReadAnswer} (e : a ≡ answer_of s) where
  pub keep_fault : {x : WriteAnswer} → (a.refusal ≡ 0 → ⊥) → x ≡ record { refusal = a.refusal; bytes = 0 } → beside x lent ≡ keep_of s lent
  unfolding keep_of keep_causes
  keep_fault z x = rw x (sym (kept_before (sheet_causes s) (length s) (kept_of s) lent a.refusal (sym (whole_refusal s e)) z))

  module _ (z : a.refusal ≡ 0) where
    pub keep_small : {x : WriteAnswer} → length lent < length s → x ≡ record { refusal = buffer_too_small; bytes = 0 } → beside x lent ≡ keep_of s lent
    unfolding keep_of keep_causes
    keep_small h x = rw x (sym (kept_small (sheet_causes s) (length s) (kept_of s) lent (sheet_numbered s) (whole_accepted s e z) h))

    pub keep_bytes : length s ≤ header_bytes + record_bytes * most_turns
    keep_bytes = sheet_bytes s (whole_accepted s e z)

    pub keep_header : header_bytes ≤ length s
    keep_header = (sheet_whole s (whole_accepted s e z)).0

    pub keep_whole : header_bytes + a.turns + widths (maps_from a.turns s header_bytes) ≤ length s
    keep_whole = rw (whole_turns_for shift_sheet s e z) (omega (arith, (sheet_whole s (whole_accepted s e z)).1))

    table_turns_lem : turns_of_table a.turns (table_of s) 0 ≡ turns_of s
    unfolding table_of
    table_turns_lem =
        let n : table_rows (rows (turns_of s)) ≡ a.turns = omega (arith, rows_length (turns_of s), turns_length s, whole_turns_for shift_sheet s e z) in
        ap (λ (k : ℕ). turns_of_table k (rows (turns_of s)) 0) (sym n) ∙ turns_rows (turns_of s)

    own_form : (u : List ℕ) → u ≡ puts lent 0 (form_with kept_mark s (columns_body (maps_from a.turns s header_bytes) (turns_of s))) → u ≡ puts lent 0 (kept_of s)
    unfolding kept_of sheet_maps
    own_form u p = p ∙ rw (whole_turns_for shift_sheet s e z)

    pub keep_done : (zeros : List ℕ) {t u : List ℕ} → (a.refusal ≡ 0 → t ≡ at_front (table_of s) zeros) → length s ≤ length lent
        → u ≡ puts lent 0 (form_with kept_mark s (columns_body (maps_from a.turns s header_bytes) (turns_of_table a.turns (take (row_numbers * a.turns) t) 0)))
        → beside (record { refusal = 0; bytes = length s }) u ≡ (keep_of s lent)
    unfolding keep_of keep_causes
    keep_done zeros {t} {u} w h p =
        let fine = whole_accepted s e z in
        let rows_are : turns_of_table a.turns (take (row_numbers * a.turns) t) 0 ≡ turns_of s = ap (λ (l : List ℕ). turns_of_table a.turns l 0) (whole_table_for shift_sheet s e z zeros w) ∙ table_turns_lem in
        let put : u ≡ puts lent 0 (kept_of s) = own_form u (p ∙ ap (λ (ts : List Turn). puts lent 0 (form_with kept_mark s (columns_body (maps_from a.turns s header_bytes) ts))) rows_are) in
        let size = kept_size s fine in
        let front : u ≡ kept_of s ++ drop (length (kept_of s)) lent = put ∙ puts_front (kept_of s) lent (omega arith) in
        ap₂ (λ (b : ℕ) (l : List ℕ). beside {A = WriteAnswer} (record { refusal = 0; bytes = b }) l) (sym size) front ∙ sym (wrote_enough (sheet_causes s) (length s) (kept_of s) lent (sheet_numbered s) fine h)
