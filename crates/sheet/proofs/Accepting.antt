-- The sheets of a kind that are accepted: what they are made of is what is read of them, and the other way round. Assumes nothing.
use Prim.Native.Nat.{ℕ, zero, suc, ◌*◌, ◌≤◌}
use mathlib.Core.Path.{◌≡◌, refl, sym, ◌∙◌, ap, ap₂}
use mathlib.Core.Bool.{Bool, true}
use mathlib.Core.List.{List, [], ◌∷◌, ◌++◌, append_assoc}
use mathlib.Core.Logic.{◌↔◌}
use native.Mathlib.Omega.{arith}
use native.Mathlib.Nat.{zero-add}
use lib.Dec.{ltb}
use lib.ListN.{length, get_or, take, drop, length-drop, take-append-drop, drop_of_length-le}
use lib.Seq.{drop-cons}
use borrow.Author.Tests.{le-ltb, ltb-false}
use Rattle.refusal.specs.Number.{trailing_bytes}
use Rattle.refusal.specs.Cause.{◌when◌, first_of}
use Rattle.refusal.proofs.Order.{first_goes, clear_cons, clear_append}
use Rattle.wire.specs.Number.{bytes_of, value_at, Bytes}
use Rattle.wire.specs.Mark.{opens_with}
use Rattle.wire.proofs.Numbers.{value_read, bytes_rest}
use Rattle.turn.specs.declared.Turn.{Turn}
use Rattle.turn.specs.declared.Counts.{Counts}
use Rattle.turn.specs.Turn.{row_numbers, Numbered}
use Rattle.sheet.specs.declared.record.Cursor.{Cursor}
use Rattle.sheet.specs.Kind.{Kind, most_turns, shift_sheet, ThreeBytes, three, Sound}
use Rattle.sheet.specs.Record.{record_causes, cursor_after, first_cursor}
use Rattle.sheet.specs.Read.{header_bytes, counts_in, turn_count, count_causes, header_causes, records_causes, turns_from, turns_of, causes_for, read_causes_for, read_for, sheet_causes, read_of}
use Rattle.sheet.specs.Layout.{header_for}
use Rattle.sheet.specs.Accepted.{Records, none, more, SheetFor, AcceptedFor, Accepted, CauseFor, SheetCause}
use Rattle.sheet.proofs.SoundKinds.{shift_sheet_sound, mark_iff}
use Rattle.sheet.proofs.Headers.{legal_counts, header_numbered, header_fine}
use Rattle.sheet.proofs.Scans.{record_numbered}
use Rattle.sheet.proofs.Readings.{causes_numbered, sheet_by_records, turns_from_length}
use Rattle.sheet.proofs.Fields.{RecordRead, record_reads, record_stands}
use Rattle.sheet.proofs.ReadCauses.{read_number_for, causes_tell_for}
use Rattle.refusal.specs.Outcome.{then_room}
use Rattle.refusal.proofs.Outcome.{enough_iff}
use Rattle.refusal.proofs.Words.{tells_none}

-- ---- from the turns to what is read

-- records stand at a cursor: nothing is wrong with them, and their turns are what is read
pub records_read : {K : Kind} {limits : Counts} {first : Bool} {p : Turn} {bytes : List ℕ} {ts : List Turn} → Records K limits first p bytes ts → Numbered K.refusals
    → limits.groomers ≤ 255 → limits.slopes ≤ 255 → (s : List ℕ) (c : Cursor) → c.first ≡ first → c.prev ≡ p → drop c.at s ≡ bytes
    → (first_of (records_causes K (length ts) s limits c) ≡ 0) × (turns_from (length ts) s c ≡ ts)
unfolding records_causes turns_from first_of cursor_after
records_read none numbers few low s c f p e = (rw (le-ltb c.at (length s) (omega (arith, length-drop c.at s, ap length e))), refl)
records_read {K} {limits} (more {t = t} {m = m} {bytes = bytes} {ts = ts} map kept fits r) numbers few low s c f p e =
    let one : RecordRead K s limits c t bytes = record_reads K s limits c m t bytes few low (rw f map) (rw p kept) fits e in
    let rest = records_read r numbers few low s (cursor_after s c) refl one.turn_is one.behind in
    (first_goes (record_causes K s limits c) _ (record_numbered K numbers s limits c) one.record_fine ∙ rest.0, ap₂ ◌∷◌ one.turn_is rest.1)

-- a header and any bytes after it: what it was made of is what is read
pub record HeaderReads (mark : List ℕ) (counts : Counts) (n : ℕ) (body : List ℕ) : Type 0 where
  pub whole : header_bytes ≤ length (header_for mark counts n ++ body)
  pub mark_is : opens_with mark (header_for mark counts n ++ body) ≡ true
  pub counts_are : counts_in (header_for mark counts n ++ body) ≡ counts
  pub count_is : turn_count (header_for mark counts n ++ body) ≡ n
  pub behind : drop header_bytes (header_for mark counts n ++ body) ≡ body

pub header_reads : {mark : List ℕ} → ThreeBytes mark → (counts : Counts) (n : ℕ) (body : List ℕ) → n ≤ most_turns → HeaderReads mark counts n body
header_reads (three {a = a} {b = b} {c = c} p q r) counts n body h =
    record {
      whole = omega arith;
      mark_is = (mark_iff (three p q r) (header_for (a ∷ b ∷ c ∷ []) counts n ++ body)).1 refl;
      counts_are = λ i. record { groomers = zero-add counts.groomers i; slopes = zero-add counts.slopes i };
      count_is = value_read 2 n (a ∷ b ∷ c ∷ counts.groomers ∷ counts.slopes ∷ []) body (omega arith);
      behind = refl;
    }

module _ (K : Kind) (sound : Sound K) (s : List ℕ) (counts : Counts) (ts : List Turn) (f : SheetFor K s counts ts) where
  header : HeaderReads K.mark counts (length ts) f.body
  header = header_reads sound.mark counts (length ts) f.body (omega (arith, f.legal.turns_to, sound.turns))

  header_clear : first_of (header_causes K (header_for K.mark counts (length ts) ++ f.body)) ≡ 0
  unfolding header_causes first_of
  header_clear =
      rw (le-ltb (length (header_for K.mark counts (length ts) ++ f.body)) header_bytes header.whole, header.mark_is)
      (ap₂ (λ (c : Counts) (n : ℕ). first_of (count_causes K c n)) header.counts_are header.count_is ∙ legal_counts K counts (length ts) f.legal)

  -- what a sheet is made of is what is read of it
  pub sheet_reads : (first_of (causes_for K s) ≡ 0) × (counts_in s ≡ counts) × (turns_of s ≡ ts) × (turn_count s ≡ length ts)
  unfolding turns_of first_cursor
  sheet_reads =
      let whole = header_for K.mark counts (length ts) ++ f.body in
      let few : counts.groomers ≤ 255 = omega (arith, f.legal.groomers_to, sound.groomers) in
      let low : counts.slopes ≤ 255 = omega (arith, f.legal.slopes_to, sound.slopes) in
      let records = records_read f.records sound.numbers few low whole first_cursor refl refl header.behind in
      let fine : first_of (records_causes K (turn_count whole) whole (counts_in whole) first_cursor) ≡ 0 =
      ap₂ (λ (n : ℕ) (c : Counts). first_of (records_causes K n whole c first_cursor)) header.count_is header.counts_are ∙ records.0 in
      rw f.bytes (sheet_by_records K sound.numbers whole header_clear ∙ fine, header.counts_are, ap (λ (n : ℕ). turns_from n whole first_cursor) header.count_is ∙ records.1, header.count_is)

-- a sheet has one reading
pub reading_unique : {K : Kind} {s : List ℕ} {counts counts' : Counts} {ts ts' : List Turn} → Sound K → SheetFor K s counts ts → SheetFor K s counts' ts' → (counts ≡ counts') × (ts ≡ ts')
reading_unique {K} {s} {counts} {counts'} {ts} {ts'} sound f g =
    let a = sheet_reads K sound s counts ts f in
    let b = sheet_reads K sound s counts' ts' g in
    (sym a.1 ∙ b.1, sym a.2 ∙ b.2)

-- ---- from what is read to the turns

module _ (K : Kind) (sound : Sound K) {s : List ℕ} (b : Bytes s) where
  records_stand : (k : ℕ) (limits : Counts) (c : Cursor) → first_of (records_causes K k s limits c) ≡ 0 → Records K limits c.first c.prev (drop c.at s) (turns_from k s c)
  unfolding records_causes turns_from cursor_after
  records_stand zero limits c e =
      let l = ltb-false c.at (length s) (clear_cons (trailing_bytes when ltb c.at (length s)) [] (omega arith) e).0 in
      rw (drop_of_length-le s l) none
  records_stand (suc k) limits c e =
      let both = clear_append (record_causes K s limits c) (records_causes K k s limits (cursor_after s c)) (record_numbered K sound.numbers s limits c) e in
      let one = record_stands b c K sound.numbers limits both.0 in
      rw one.bytes (more one.map one.kept one.fits (records_stand k limits (cursor_after s c) both.1))

  pub header_stands : header_bytes ≤ length s → take 3 s ≡ K.mark → s ≡ header_for K.mark (counts_in s) (turn_count s) ++ drop header_bytes s
  header_stands l mark =
      let g : drop 3 s ≡ value_at s 3 1 ∷ drop 4 s = rw (drop-cons s 3 0 (omega arith), zero-add (get_or s 3 0)) in
      let h : drop 4 s ≡ value_at s 4 1 ∷ drop 5 s = rw (drop-cons s 4 0 (omega arith), zero-add (get_or s 4 0)) in
      let rest : drop 3 s ≡ (value_at s 3 1 ∷ value_at s 4 1 ∷ bytes_of 2 (turn_count s)) ++ drop header_bytes s =
      g ∙ ap (λ (r : List ℕ). value_at s 3 1 ∷ r) (h ∙ ap (λ (r : List ℕ). value_at s 4 1 ∷ r) (bytes_rest b 5 2 (omega arith))) in
      sym (take-append-drop 3 s) ∙ ap₂ ◌++◌ mark rest ∙ sym (append_assoc K.mark _ _)

  -- nothing is wrong with a sheet: it is made of what is read of it
  pub reads_sheet : first_of (causes_for K s) ≡ 0 → SheetFor K s (counts_in s) (turns_of s)
  unfolding causes_for turns_of first_cursor
  reads_sheet e =
      let both = clear_append (header_causes K s) (records_causes K (turn_count s) s (counts_in s) first_cursor) (header_numbered K sound.numbers s) e in
      let h = header_fine K sound.numbers s both.0 in
      let count = turns_from_length (turn_count s) s first_cursor in
      record {
        legal = rw count h.legal;
        body = drop header_bytes s;
        bytes = rw count (header_stands h.whole ((mark_iff sound.mark s).0 h.mark));
        records = records_stand (turn_count s) (counts_in s) first_cursor both.1;
      }

  -- ---- accepted

  -- the executable reading of a sheet refuses nothing just if the sheet is accepted
  pub accepted_iff_for : (first_of (causes_for K s) ≡ 0) ↔ AcceptedFor K s
  accepted_iff_for = (λ e. record { counts = counts_in s; turns = turns_of s; sheet = reads_sheet e }, λ a. (sheet_reads K sound s a.counts a.turns a.sheet).0)

  -- in words alone: no cause is there
  pub accepted_no_cause_for : AcceptedFor K s ↔ ((k r : ℕ) → CauseFor K s k r → ⊥)
  accepted_no_cause_for = let none = tells_none (causes_tell_for K sound s) in (λ a. none.0 (accepted_iff_for.1 a), λ n. accepted_iff_for.0 (none.1 n))

  -- where too few lent places are the last cause: nothing is refused just if the sheet is accepted and the places are enough
  pub lent_accepted_iff_for : (need places : ℕ) {f : ℕ} → f ≡ first_of (then_room (causes_for K s) need places) → (f ≡ 0) ↔ (AcceptedFor K s × (need ≤ places))
  lent_accepted_iff_for need places q =
      let e = enough_iff (causes_for K s) places need (causes_numbered K sound.numbers s) in
      (λ z. let h = e.0 (sym q ∙ z) in (accepted_iff_for.0 h.0, h.1), λ h. q ∙ e.1 (accepted_iff_for.1 h.0, h.1))

  -- so it is for the reader
  pub read_accepted_iff_for : (lent : List ℕ) → ((read_for K s lent).answer.refusal ≡ 0) ↔ (AcceptedFor K s × (row_numbers * turn_count s ≤ length lent))
  unfolding read_causes_for
  read_accepted_iff_for lent = lent_accepted_iff_for (row_numbers * turn_count s) (length lent) (read_number_for K s lent)

-- ---- a shift's sheet

module _ {s : List ℕ} (b : Bytes s) where
  pub accepted_iff : (first_of (sheet_causes s) ≡ 0) ↔ Accepted s
  unfolding sheet_causes
  accepted_iff = accepted_iff_for shift_sheet shift_sheet_sound b

  pub lent_accepted_iff : (need places : ℕ) {f : ℕ} → f ≡ first_of (then_room (sheet_causes s) need places) → (f ≡ 0) ↔ (Accepted s × (need ≤ places))
  unfolding sheet_causes
  lent_accepted_iff = lent_accepted_iff_for shift_sheet shift_sheet_sound b

  pub accepted_no_cause : Accepted s ↔ ((k r : ℕ) → SheetCause s k r → ⊥)
  accepted_no_cause = accepted_no_cause_for shift_sheet shift_sheet_sound b

  pub read_accepted_iff : (lent : List ℕ) → ((read_of s lent).answer.refusal ≡ 0) ↔ (Accepted s × (row_numbers * turn_count s ≤ length lent))
  unfolding read_of
  read_accepted_iff = read_accepted_iff_for shift_sheet shift_sheet_sound b
