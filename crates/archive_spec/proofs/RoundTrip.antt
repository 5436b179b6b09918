-- To the kept form and back: the very bytes, both ways; what one entry writes the other accepts. Assumes nothing.
use Prim.Native.Nat.{ℕ, ◌+◌, ◌≤◌}
use mathlib.Core.Path.{◌≡◌, refl, sym, ◌∙◌, ap, ap₂}
use mathlib.Core.Bool.{true}
use mathlib.Core.List.{List, [], ◌∷◌, ◌++◌}
use native.Mathlib.Omega.{arith}
use lib.ListN.{length, drop}
use Rattle.refusal.specs.Cause.{first_of}
use Rattle.refusal.specs.Written.{wrote, written_part}
use Rattle.refusal.proofs.Written.{wrote_enough, written_bytes}
use Rattle.wire.specs.Number.{Bytes, bytes_of, bytes_at}
use Rattle.wire.specs.Mark.{sheet_mark, kept_mark}
use Rattle.turn.specs.declared.Turn.{Turn}
use Rattle.turn.specs.declared.Counts.{Counts}
use Rattle.sheet.specs.Kind.{shift_sheet}
use Rattle.sheet.specs.Record.{first_cursor}
use Rattle.sheet.specs.Read.{header_bytes, counts_in, turn_count, turns_of, sheet_causes}
use Rattle.sheet.specs.Layout.{header_for}
use Rattle.sheet.specs.Accepted.{Legal, SheetFor, Accepted}
use Rattle.sheet.proofs.SoundKinds.{shift_sheet_sound}
use Rattle.sheet.proofs.Readings.{sheet_numbered}
use Rattle.sheet.proofs.Accepting.{sheet_reads}
use Rattle.archive_spec.specs.Column.{widths}
use Rattle.archive_spec.specs.Kept.{records_body, columns_body, sheet_maps, kept_of, kept_turns, restored_of}
use Rattle.archive_spec.specs.Archive.{keep_causes, keep_of, kept_causes, restore_causes, restore_of}
use Rattle.archive_spec.specs.AcceptedKept.{Together, KeptFor, AcceptedKept}
use Rattle.archive_spec.proofs.Bodies.{together_length, records_length, together_records, records_mapped, maps_read}
use Rattle.archive_spec.proofs.Accepting.{kept_reads, kept_long, kept_numbered}
use Rattle.archive_spec.proofs.KeptCauses.{keep_accepted_iff, restore_accepted_iff}

-- a sheet with its maps named
pub record SheetWith (s : List ℕ) (counts : Counts) (ms : List ℕ) (ts : List Turn) : Type 0 where
  pub legal : Legal shift_sheet counts (length ts)
  pub together : Together counts true first_cursor.prev ms ts
  pub bytes : s ≡ header_for sheet_mark counts (length ts) ++ records_body ms ts

pub with_sheet : {s : List ℕ} {counts : Counts} {ms : List ℕ} {ts : List Turn} → SheetWith s counts ms ts → SheetFor shift_sheet s counts ts
unfolding shift_sheet
with_sheet {ms = ms} {ts = ts} w = record { legal = w.legal; body = records_body ms ts; bytes = w.bytes; records = together_records w.together }

-- every accepted sheet is one
pub record Named (s : List ℕ) (counts : Counts) (ts : List Turn) : Type 0 where
  pub maps : List ℕ
  pub sheet : SheetWith s counts maps ts

pub sheet_named : {s : List ℕ} {counts : Counts} {ts : List Turn} → SheetFor shift_sheet s counts ts → Named s counts ts
unfolding shift_sheet
sheet_named {s} {counts} {ts} f =
    let m = records_mapped f.records in
    record { maps = m.maps; sheet = record { legal = f.legal; together = m.together; bytes = f.bytes ∙ ap (λ (l : List ℕ). header_for sheet_mark counts (length ts) ++ l) m.body } }

-- bytes 3 to 6 of a header
front_bytes : (a b c : ℕ) (counts : Counts) (n : ℕ) (body : List ℕ) → bytes_at (header_for (a ∷ b ∷ c ∷ []) counts n ++ body) 3 4 ≡ counts.groomers ∷ counts.slopes ∷ bytes_of 2 n
front_bytes a b c counts n body = refl

-- ---- one way and the other

module _ (s : List ℕ) (counts : Counts) (ms : List ℕ) (ts : List Turn) (w : SheetWith s counts ms ts) where
  reads : (first_of (sheet_causes s) ≡ 0) × (counts_in s ≡ counts) × (turns_of s ≡ ts) × (turn_count s ≡ length ts)
  unfolding sheet_causes
  reads = sheet_reads shift_sheet shift_sheet_sound s counts ts (with_sheet w)

  pub sheet_maps_lem : sheet_maps s ≡ ms
  unfolding sheet_maps
  sheet_maps_lem =
      let same = together_length w.together in
      let behind : drop header_bytes s ≡ records_body ms ts = ap (drop header_bytes) w.bytes in
      let n : turn_count s ≡ length ms = reads.3 ∙ same in
      rw n (maps_read ms ts s header_bytes same behind)

  pub sheet_kept : KeptFor (kept_of s) counts ms ts
  unfolding kept_of
  sheet_kept =
      let front : bytes_at s 3 4 ≡ counts.groomers ∷ counts.slopes ∷ bytes_of 2 (length ts) = ap (λ (l : List ℕ). bytes_at l 3 4) w.bytes ∙ (front_bytes 0x47 0x52 0x4D counts (length ts) (records_body ms ts)) in
      record { legal = w.legal; together = w.together; bytes = ap₂ (λ (f b : List ℕ). kept_mark ++ (f ++ b)) front (ap₂ columns_body sheet_maps_lem reads.2) }

  sheet_long : length s ≡ header_bytes + length ms + widths ms
  sheet_long = ap length w.bytes ∙ omega (arith, records_length ms ts (together_length w.together))

  pub kept_as_long : length (kept_of s) ≡ length s
  kept_as_long = kept_long (kept_of s) counts ms ts sheet_kept ∙ sym sheet_long

module _ (k : List ℕ) (counts : Counts) (ms : List ℕ) (ts : List Turn) (f : KeptFor k counts ms ts) where
  pub kept_sheet : SheetWith (restored_of k) counts ms ts
  unfolding restored_of
  kept_sheet =
      let r = kept_reads k counts ms ts f in
      let front : bytes_at k 3 4 ≡ counts.groomers ∷ counts.slopes ∷ bytes_of 2 (length ts) = ap (λ (l : List ℕ). bytes_at l 3 4) f.bytes ∙ (front_bytes 0x47 0x52 0x43 counts (length ts) (columns_body ms ts)) in
      record { legal = f.legal; together = f.together; bytes = ap₂ (λ (h b : List ℕ). sheet_mark ++ (h ++ b)) front (ap₂ records_body r.maps_are r.turns_are) }

  restored_back : kept_of (restored_of k) ≡ k
  restored_back = (sheet_kept (restored_of k) counts ms ts kept_sheet).bytes ∙ sym f.bytes

  restored_long : length (restored_of k) ≡ length k
  restored_long = sheet_long (restored_of k) counts ms ts kept_sheet ∙ sym (kept_long k counts ms ts f)

  kept_turns_lem : kept_turns k ≡ turns_of (restored_of k)
  kept_turns_lem = (kept_reads k counts ms ts f).turns_are ∙ sym (reads (restored_of k) counts ms ts kept_sheet).2

module _ (s : List ℕ) (counts : Counts) (ms : List ℕ) (ts : List Turn) (w : SheetWith s counts ms ts) where
  kept_back : restored_of (kept_of s) ≡ s
  kept_back = (kept_sheet (kept_of s) counts ms ts (sheet_kept s counts ms ts w)).bytes ∙ sym w.bytes

-- ---- an accepted sheet

module _ (s : List ℕ) (a : Accepted s) where
  name : Named s a.counts a.turns
  name = sheet_named a.sheet

  -- its kept form is accepted, is as long, has its turns, and gives its very bytes back
  pub keep_accepted : AcceptedKept (kept_of s)
  keep_accepted = record { counts = a.counts; maps = name.maps; turns = a.turns; kept = sheet_kept s a.counts name.maps a.turns name.sheet }

  pub keep_length : length (kept_of s) ≡ length s
  keep_length = kept_as_long s a.counts name.maps a.turns name.sheet

  pub keep_back : restored_of (kept_of s) ≡ s
  keep_back = kept_back s a.counts name.maps a.turns name.sheet

  pub keep_turns : kept_turns (kept_of s) ≡ turns_of s
  keep_turns = kept_turns_lem (kept_of s) a.counts name.maps a.turns (sheet_kept s a.counts name.maps a.turns name.sheet) ∙ ap turns_of keep_back

-- ---- an accepted kept form

module _ (k : List ℕ) (a : AcceptedKept k) where
  -- its sheet is accepted, is as long, has its turns, and gives its very bytes back
  pub restore_accepted : Accepted (restored_of k)
  restore_accepted = record { counts = a.counts; turns = a.turns; sheet = with_sheet (kept_sheet k a.counts a.maps a.turns a.kept) }

  pub restore_length : length (restored_of k) ≡ length k
  restore_length = restored_long k a.counts a.maps a.turns a.kept

  pub restore_turns : kept_turns k ≡ turns_of (restored_of k)
  restore_turns = kept_turns_lem k a.counts a.maps a.turns a.kept

  pub restore_back : kept_of (restored_of k) ≡ k
  restore_back = restored_back k a.counts a.maps a.turns a.kept

-- ---- said of the entries

accepted_clear : (s : List ℕ) → Accepted s → first_of (sheet_causes s) ≡ 0
unfolding sheet_causes
accepted_clear s a = (sheet_reads shift_sheet shift_sheet_sound s a.counts a.turns a.sheet).0

kept_clear : (k : List ℕ) → AcceptedKept k → first_of (kept_causes k) ≡ 0
kept_clear k a = (kept_reads k a.counts a.maps a.turns a.kept).fine

pub keep_writes : (s lent : List ℕ) → Accepted s → length s ≤ length lent → keep_of s lent ≡ wrote (kept_of s) lent
unfolding keep_of keep_causes
keep_writes s lent a h = wrote_enough (sheet_causes s) (length s) (kept_of s) lent (sheet_numbered s) (accepted_clear s a) h

pub restore_writes : (k lent : List ℕ) → AcceptedKept k → length k ≤ length lent → restore_of k lent ≡ wrote (restored_of k) lent
unfolding restore_of restore_causes
restore_writes k lent a h = wrote_enough (kept_causes k) (length k) (restored_of k) lent (kept_numbered k) (kept_clear k a) h

-- the kept form of an accepted sheet is restored to the sheet's very bytes
kept_restores : (s lent : List ℕ) → Accepted s → length s ≤ length lent → restore_of (kept_of s) lent ≡ wrote s lent
kept_restores s lent a h = restore_writes (kept_of s) lent (keep_accepted s a) (omega (arith, keep_length s a)) ∙ ap (λ (x : List ℕ). wrote x lent) (keep_back s a)

-- and the sheet of an accepted kept form is kept as the form's very bytes
restored_keeps : (k lent : List ℕ) → AcceptedKept k → length k ≤ length lent → keep_of (restored_of k) lent ≡ wrote k lent
restored_keeps k lent a h = keep_writes (restored_of k) lent (restore_accepted k a) (omega (arith, restore_length k a)) ∙ ap (λ (x : List ℕ). wrote x lent) (restore_back k a)

-- ---- the entries one after the other

-- the bytes that keeping says it wrote, where it refused nothing, are the kept form, whatever the lent bytes were
pub keep_written : (s lent : List ℕ) → (keep_of s lent).answer.refusal ≡ 0 → written_part (keep_of s lent) ≡ kept_of s
unfolding keep_of
keep_written s lent = written_bytes (keep_causes s (length lent)) (kept_of s) lent

-- those that restoring says it wrote are the sheet
pub restore_written : (k lent : List ℕ) → (restore_of k lent).answer.refusal ≡ 0 → written_part (restore_of k lent) ≡ restored_of k
unfolding restore_of
restore_written k lent = written_bytes (restore_causes k (length lent)) (restored_of k) lent

-- the bytes that keeping says it wrote, restored into any lent bytes that are enough, are the sheet again, and the rest stays
pub keep_then_restore : {s : List ℕ} → Bytes s → (lent other : List ℕ) → (keep_of s lent).answer.refusal ≡ 0 → length s ≤ length other
    → restore_of (written_part (keep_of s lent)) other ≡ wrote s other
keep_then_restore {s} b lent other e h = rw (keep_written s lent e) (kept_restores s other ((keep_accepted_iff b lent).0 e).0 h)

-- and those that restoring says it wrote, kept, are the kept form again
pub restore_then_keep : {k : List ℕ} → Bytes k → (lent other : List ℕ) → (restore_of k lent).answer.refusal ≡ 0 → length k ≤ length other
    → keep_of (written_part (restore_of k lent)) other ≡ wrote k other
restore_then_keep {k} b lent other e h = rw (restore_written k lent e) (restored_keeps k other ((restore_accepted_iff b lent).0 e).0 h)
