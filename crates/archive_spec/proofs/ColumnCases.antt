-- A column by its cases, each premise in the form in which the code's calls and tests leave it. Assumes nothing.
use Prim.Native.Nat.{ℕ, zero, suc, ◌+◌, ◌-◌, ◌*◌, ◌/◌, ◌%◌, ◌<◌, ◌≤◌}
use mathlib.Core.Path.{◌≡◌, refl, sym, ◌∙◌, ap}
use mathlib.Core.List.{List}
use native.Mathlib.Omega.{arith}
use native.Mathlib.Nat.{add-zero}
use lib.ListN.{length, get_or, set, drop}
use lib.Seq.{drop-length}
use Rattle.lists.proofs.Places.{drop_step}
use Rattle.wire.specs.Number.{puts}
use Rattle.wire.proofs.Puts.{puts_append}
use Rattle.turn.specs.Turn.{row_numbers, row_of, turn_in, turns_of_table}
use Rattle.turn.proofs.Rows.{turns_step}
use Rattle.sheet.specs.Record.{field}
use Rattle.sheet.specs.Layout.{field_bytes}
use Rattle.sheet.proofs.Fields.{field_length}
use Rattle.archive_spec.specs.declared.Field.{Field}
use Rattle.archive_spec.specs.Column.{ColumnsLaid, slopes, groomers, starts, lengths, worths, drivers, size_in, field_in, field_value, column_size, values_of, column_of, column_read, spread}

-- ---- the fields

pub slopes_laid : ColumnsLaid slopes
slopes_laid = record { within = omega arith; unit_from = omega arith; width_from = omega arith; width_to = omega arith }

pub groomers_laid : ColumnsLaid groomers
groomers_laid = record { within = omega arith; unit_from = omega arith; width_from = omega arith; width_to = omega arith }

pub starts_laid : ColumnsLaid starts
starts_laid = record { within = omega arith; unit_from = omega arith; width_from = omega arith; width_to = omega arith }

pub lengths_laid : ColumnsLaid lengths
lengths_laid = record { within = omega arith; unit_from = omega arith; width_from = omega arith; width_to = omega arith }

pub worths_laid : ColumnsLaid worths
worths_laid = record { within = omega arith; unit_from = omega arith; width_from = omega arith; width_to = omega arith }

pub drivers_laid : ColumnsLaid drivers
drivers_laid = record { within = omega arith; unit_from = omega arith; width_from = omega arith; width_to = omega arith }

pub ruleset laid_cases = (slopes_laid, groomers_laid, starts_laid, lengths_laid, worths_laid, drivers_laid)

-- ---- one field of one record

pub bit_below : (x : ℕ) → x % 2 < 2
bit_below x = omega arith

pub field_in_length : (F : Field) (m v : ℕ) → length (field_in F m v) ≡ size_in F m
unfolding field_in size_in
field_in_length F m v = field_length (m / F.unit % 2) F.width v (bit_below (m / F.unit))

two : (F : Field) → ColumnsLaid F → (F.width ≡ 1 → ⊥) → F.width ≡ 2
two F l n = go F.width l.width_from l.width_to n
  where
    go : (w : ℕ) → 1 ≤ w → w ≤ 2 → (w ≡ 1 → ⊥) → w ≡ 2
    go zero a b n = absurd (omega arith)
    go (suc zero) a b n = absurd (n refl)
    go (suc (suc zero)) a b n = refl
    go (suc (suc (suc w))) a b n = absurd (omega arith)

module _ (F : Field) (m : ℕ) where
  one_size : F.width ≡ 1 → size_in F m ≡ m / F.unit % 2
  unfolding size_in
  one_size e = rw e (omega arith)

  two_size : ColumnsLaid F → (F.width ≡ 1 → ⊥) → size_in F m ≡ 2 * (m / F.unit % 2)
  unfolding size_in
  two_size l n = rw (two F l n)

  pub byte_size : F.width ≡ 1 → (m / F.unit % 2 ≡ size_in F m) × (m / F.unit % 2 ≤ 2)
  byte_size e = (sym (one_size e), omega arith)

  pub wide_size : ColumnsLaid F → (F.width ≡ 1 → ⊥) → (2 * (m / F.unit % 2) ≡ size_in F m) × (2 * (m / F.unit % 2) ≤ 2)
  wide_size l e = (sym (two_size l e), omega arith)

  -- room for it
  pub byte_fits : (at : ℕ) {n : ℕ} → F.width ≡ 1 → at + size_in F m ≤ n → at + m / F.unit % 2 ≤ n
  byte_fits at e h = rw (← one_size e) h

  pub wide_fits : (at : ℕ) {n : ℕ} → ColumnsLaid F → (F.width ≡ 1 → ⊥) → at + size_in F m ≤ n → at + 2 * (m / F.unit % 2) ≤ n
  wide_fits at l e h = rw (← two_size l e) h

  -- put
  pub byte_at : (at : ℕ) {r : ℕ} → F.width ≡ 1 → r ≡ at + m / F.unit % 2 → r ≡ at + size_in F m
  byte_at at e p = rw (one_size e) p

  pub wide_at : (at : ℕ) {r : ℕ} → ColumnsLaid F → (F.width ≡ 1 → ⊥) → r ≡ at + 2 * (m / F.unit % 2) → r ≡ at + size_in F m
  wide_at at l e p = rw (two_size l e) p

  pub byte_put : (at x : ℕ) (l : List ℕ) {l' : List ℕ} → F.width ≡ 1 → l' ≡ puts l at (field_bytes (m / F.unit % 2) 1 x) → l' ≡ puts l at (field_in F m x)
  unfolding field_in
  byte_put at x l e q = rw e q

  pub wide_put : (at x : ℕ) (l : List ℕ) {l' : List ℕ} → ColumnsLaid F → (F.width ≡ 1 → ⊥) → l' ≡ puts l at (field_bytes (m / F.unit % 2) 2 x) → l' ≡ puts l at (field_in F m x)
  unfolding field_in
  wide_put at x l laid e q = rw (two F laid e) q

  -- read
  pub byte_read : (at old : ℕ) (s : List ℕ) {r : ℕ} → F.width ≡ 1 → r ≡ field 1 s at (m / F.unit % 2) old → r ≡ field_value F s at m old
  unfolding field_value
  byte_read at old s e p = rw e p

  pub wide_read : (at old : ℕ) (s : List ℕ) {r : ℕ} → ColumnsLaid F → (F.width ≡ 1 → ⊥) → r ≡ field 2 s at (m / F.unit % 2) old → r ≡ field_value F s at m old
  unfolding field_value
  wide_read at old s l e p = rw (two F l e) p

pub ruleset field_in_cases = (bit_below, byte_size, wide_size, byte_fits, wide_fits, byte_at, wide_at, byte_put, wide_put, byte_read, wide_read)

-- ---- a column

-- a place of a table is a value of its turn
cell : (table : List ℕ) (i p : ℕ) → p < row_numbers → get_or table (i * row_numbers + p) 0 ≡ get_or (row_of (turn_in table i)) p 0
cell table i zero h = rw (add-zero (i * row_numbers))
cell table i (suc zero) h = refl
cell table i (suc (suc zero)) h = refl
cell table i (suc (suc (suc zero))) h = refl
cell table i (suc (suc (suc (suc zero)))) h = refl
cell table i (suc (suc (suc (suc (suc zero))))) h = refl
cell table i (suc (suc (suc (suc (suc (suc p)))))) h = absurd (omega arith)

module _ (F : Field) (maps : List ℕ) (i at : ℕ) where
  size_next : i < length maps → column_size F (drop i maps) ≡ size_in F (get_or maps i 0) + column_size F (drop (i + 1) maps)
  unfolding column_size
  size_next h = rw (drop_step maps i h)

  pub size_more : {at' e : ℕ} → i < length maps → at' ≡ at + size_in F (get_or maps i 0) → at + column_size F (drop i maps) ≡ e → at' + column_size F (drop (i + 1) maps) ≡ e
  size_more h p q = omega (arith, size_next h)

  pub size_moved : {w e : ℕ} → i < length maps → w ≡ size_in F (get_or maps i 0) → at + column_size F (drop i maps) ≡ e → at + w + column_size F (drop (i + 1) maps) ≡ e
  size_moved h p q = omega (arith, size_next h)

  pub size_fits : {e n : ℕ} → i < length maps → at + column_size F (drop i maps) ≡ e → e ≤ n → at + size_in F (get_or maps i 0) ≤ n
  size_fits h p q = omega (arith, size_next h)

  pub size_room : {e n k : ℕ} → i < length maps → at + column_size F (drop i maps) ≡ e → e ≤ n → k ≡ n → at + size_in F (get_or maps i 0) ≤ k
  size_room h p q r = omega (arith, size_next h)

  pub size_done : {e : ℕ} → length maps ≤ i → i ≤ length maps → at + column_size F (drop i maps) ≡ e → at ≡ e
  unfolding column_size
  size_done h k e =
      let q : i ≡ length maps = omega arith in
      let z : column_size F (drop i maps) ≡ 0 = rw (q, drop-length maps) in
      omega arith

  pub put_more : (table l : List ℕ) {at' : ℕ} {l' z : List ℕ} → i < length maps → ColumnsLaid F → at' ≡ at + size_in F (get_or maps i 0)
      → l' ≡ puts l at (field_in F (get_or maps i 0) (get_or table (i * row_numbers + F.place) 0))
      → puts l at (column_of F (drop i maps) (values_of F (turns_of_table (length maps - i) table i))) ≡ z
      → puts l' at' (column_of F (drop (i + 1) maps) (values_of F (turns_of_table (length maps - (i + 1)) table (i + 1)))) ≡ z
  unfolding column_of values_of
  put_more table l {at'} h laid p q e =
      let m = get_or maps i 0 in
      let x = get_or (row_of (turn_in table i)) F.place 0 in
      let rest = column_of F (drop (i + 1) maps) (values_of F (turns_of_table (length maps - (i + 1)) table (i + 1))) in
      rw (q, cell table i F.place laid.within) (puts_append (field_in F m x) rest l at at' (p ∙ ap (λ (n : ℕ). at + n) (sym (field_in_length F m x))) ∙ rw (drop_step maps i h, turns_step (length maps) i table h) at e)

  pub put_start : (table l : List ℕ) → puts l at (column_of F (drop 0 maps) (values_of F (turns_of_table (length maps - 0) table 0))) ≡ puts l at (column_of F maps (values_of F (turns_of_table (length maps) table 0)))
  put_start table l = let z : length maps - 0 ≡ length maps = omega arith in rw z

  pub put_done : (table l : List ℕ) {z : List ℕ} → length maps ≤ i → i ≤ length maps → puts l at (column_of F (drop i maps) (values_of F (turns_of_table (length maps - i) table i))) ≡ z → l ≡ z
  unfolding column_of
  put_done table l h k e = let q : i ≡ length maps = omega arith in rw (q, drop-length maps) at e

  pub read_more : (l s : List ℕ) (old : ℕ) {v w : ℕ} {z : List ℕ} → i < length maps → v ≡ field_value F s at (get_or maps i 0) old → w ≡ size_in F (get_or maps i 0)
      → spread l (i * row_numbers + F.place) (column_read F (drop i maps) s at old) ≡ z
      → spread (set l (i * row_numbers + F.place) v) ((i + 1) * row_numbers + F.place) (column_read F (drop (i + 1) maps) s (at + w) v) ≡ z
  unfolding column_read spread
  read_more l s old h p q e =
      let k : (i + 1) * row_numbers + F.place ≡ i * row_numbers + F.place + row_numbers = omega arith in
      rw (k, p, q) (rw (drop_step maps i h) at e)

  pub read_done : (l s : List ℕ) (old : ℕ) {z : List ℕ} → length maps ≤ i → i ≤ length maps → spread l (i * row_numbers + F.place) (column_read F (drop i maps) s at old) ≡ z → l ≡ z
  unfolding column_read spread
  read_done l s old h k e = let q : i ≡ length maps = omega arith in rw (q, drop-length maps) at e

pub read_start : (F : Field) (maps l s : List ℕ) (at : ℕ) → spread l (0 * row_numbers + F.place) (column_read F (drop 0 maps) s at 0) ≡ spread l F.place (column_read F maps s at 0)
read_start F maps l s at = let z : 0 * row_numbers + F.place ≡ F.place = omega arith in rw z

-- the place in a table
pub cell_within : (F : Field) (i : ℕ) {n k : ℕ} → ColumnsLaid F → i < n → row_numbers * n ≤ k → i * row_numbers + F.place < k
cell_within F i l h m = omega (arith, l.within)

pub ruleset column_cases = (size_more, size_moved, size_fits, size_room, size_done, put_start, put_more, put_done, read_start, read_more, read_done, cell_within)
