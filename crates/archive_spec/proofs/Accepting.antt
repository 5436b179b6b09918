-- The kept forms that are accepted: what they are made of is what is read of them, and the other way round. Assumes nothing.
use Prim.Native.Nat.{ℕ, zero, suc, ◌+◌, ◌≤◌}
use mathlib.Core.Path.{◌≡◌, refl, sym, ◌∙◌, ap}
use mathlib.Core.Bool.{true}
use mathlib.Core.List.{List, [], ◌∷◌, ◌++◌}
use mathlib.Core.Logic.{◌↔◌}
use native.Mathlib.Omega.{arith}
use lib.Dec.{ltb}
use lib.ListN.{length, drop, length-drop, take-append-drop}
use lib.Seq.{take_at, drop_at, drop-drop, length-take-le}
use borrow.Author.Tests.{le-ltb, ltb-false}
use Rattle.refusal.specs.Number.{truncated, trailing_bytes}
use Rattle.refusal.specs.Cause.{◌when◌, first_of}
use Rattle.refusal.proofs.Order.{numbered, numbered_append, first_goes, clear_cons, clear_append}
use Rattle.wire.specs.Number.{Bytes}
use Rattle.wire.specs.Mark.{opens_with, kept_mark}
use Rattle.turn.specs.declared.Turn.{Turn}
use Rattle.turn.specs.declared.Counts.{Counts}
use Rattle.sheet.specs.Kind.{shift_sheet, three, Sound}
use Rattle.sheet.specs.Record.{first_cursor}
use Rattle.sheet.specs.Read.{header_bytes, counts_in, turn_count, header_causes}
use Rattle.sheet.specs.Layout.{header_for}
use Rattle.sheet.specs.Accepted.{Legal}
use Rattle.sheet.proofs.SoundKinds.{shift_sheet_sound, mark_iff}
use Rattle.sheet.proofs.Headers.{legal_counts, header_numbered, header_fine}
use Rattle.sheet.proofs.Accepting.{HeaderReads, header_reads, header_stands}
use Rattle.write_spec.specs.Write.{turns_causes}
use Rattle.write_spec.proofs.Writable.{turns_numbered}
use Rattle.archive_spec.specs.Column.{widths, columns_of, columns_in, turns_across}
use Rattle.archive_spec.proofs.Resolved.{columns_read_back, columns_stand, going_first}
use Rattle.archive_spec.specs.Kept.{columns_body, archive, kept_maps, columns_at, kept_end, kept_turns}
use Rattle.archive_spec.specs.Archive.{maps_causes, form_causes, kept_causes}
use Rattle.archive_spec.specs.AcceptedKept.{Together, KeptFor, AcceptedKept}
use Rattle.archive_spec.proofs.Bodies.{together_length, columns_length, all_follow, maps_numbered, maps_clear, turns_clear, together_read}

pub archive_sound : Sound archive
unfolding archive
archive_sound =
    record {
      mark = three {a = 0x47} {b = 0x52} {c = 0x43} (omega arith) (omega arith) (omega arith);
      groomers = shift_sheet_sound.groomers;
      slopes = shift_sheet_sound.slopes;
      turns = shift_sheet_sound.turns;
      numbers = shift_sheet_sound.numbers;
    }

-- the counts that a header may name are a shift's
pub archive_legal : {counts : Counts} {n : ℕ} → Legal archive counts n → Legal shift_sheet counts n
unfolding archive
archive_legal l = record { groomers_from_lem = l.groomers_from_lem; groomers_to = l.groomers_to; slopes_from = l.slopes_from; slopes_to = l.slopes_to; turns_to = l.turns_to }

pub legal_archive : {counts : Counts} {n : ℕ} → Legal shift_sheet counts n → Legal archive counts n
unfolding archive
legal_archive l = record { groomers_from_lem = l.groomers_from_lem; groomers_to = l.groomers_to; slopes_from = l.slopes_from; slopes_to = l.slopes_to; turns_to = l.turns_to }

-- every number in the list is above 0
pub form_numbered : (k : List ℕ) → numbered (form_causes k) ≡ true
unfolding form_causes
form_numbered k = numbered_append (maps_causes archive.maps true (kept_maps k)) _ (maps_numbered archive.maps true (kept_maps k)) refl

values_numbered : (k : List ℕ) → numbered (turns_causes archive.refusals (counts_in k) (kept_turns k)) ≡ true
values_numbered k = turns_numbered archive.refusals (counts_in k) (kept_turns k) archive_sound.numbers

pub kept_numbered : (k : List ℕ) → numbered (kept_causes k) ≡ true
unfolding kept_causes
kept_numbered k = numbered_append (header_causes archive k) _ (header_numbered archive archive_sound.numbers k) (numbered_append (form_causes k) _ (form_numbered k) (values_numbered k))

-- ---- from maps and turns to what is read

pub record KeptReads (k : List ℕ) (counts : Counts) (ms : List ℕ) (ts : List Turn) : Type 0 where
  pub fine : first_of (kept_causes k) ≡ 0
  pub counts_are : counts_in k ≡ counts
  pub count_is : turn_count k ≡ length ts
  pub maps_are : kept_maps k ≡ ms
  pub turns_are : kept_turns k ≡ ts

module _ (k : List ℕ) (counts : Counts) (ms : List ℕ) (ts : List Turn) (f : KeptFor k counts ms ts) where
  same : length ts ≡ length ms
  same = together_length f.together

  few : counts.groomers ≤ 255
  few = omega (arith, f.legal.groomers_to, shift_sheet_sound.groomers)

  low : counts.slopes ≤ 255
  low = omega (arith, f.legal.slopes_to, shift_sheet_sound.slopes)

  header : HeaderReads kept_mark counts (length ts) (columns_body ms ts)
  header = header_reads (three {a = 0x47} {b = 0x52} {c = 0x43} (omega arith) (omega arith) (omega arith)) counts (length ts) (columns_body ms ts) (omega (arith, f.legal.turns_to, shift_sheet_sound.turns))

  behind : drop header_bytes k ≡ columns_body ms ts
  behind = rw f.bytes header.behind

  count : turn_count k ≡ length ts
  count = rw f.bytes header.count_is

  counts_in_lem : counts_in k ≡ counts
  counts_in_lem = rw f.bytes header.counts_are

  maps_in : kept_maps k ≡ ms
  unfolding kept_maps columns_body
  maps_in = rw (behind, count) (take_at ms (columns_of ms ts) (length ts) (sym same))

  columns_in_lem : drop (header_bytes + length ts) k ≡ columns_of ms ts
  unfolding columns_body
  columns_in_lem = sym (drop-drop (length ts) header_bytes k) ∙ ap (drop (length ts)) behind ∙ drop_at ms (columns_of ms ts) (length ts) (sym same)

  long : length k ≡ header_bytes + length ts + widths ms
  long =
      let whole : header_bytes ≤ length k = rw f.bytes header.whole in
      omega (arith, length-drop header_bytes k, ap length behind, columns_length ms ts same, same)

  turns_in_lem : kept_turns k ≡ ts
  unfolding kept_turns first_cursor
  turns_in_lem =
      let all = all_follow f.together few low in
      rw (maps_in, count) (columns_read_back k ms ts (header_bytes + length ts) same all.slope all.groomer all.start all.length all.worth all.driver columns_in_lem).0

  opens : opens_with archive.mark k ≡ true
  unfolding archive
  opens = rw f.bytes header.mark_is

  header_clear : first_of (header_causes archive k) ≡ 0
  unfolding header_causes first_of
  header_clear =
      let whole : header_bytes ≤ length k = rw f.bytes header.whole in
      rw (le-ltb (length k) header_bytes whole, opens, counts_in_lem, count) (legal_counts archive counts (length ts) (legal_archive f.legal))

  form_clear : first_of (form_causes k) ≡ 0
  unfolding form_causes first_of kept_end archive
  form_clear =
      rw (maps_in, count, le-ltb (length k) (header_bytes + length ts) (omega (arith, long)))
      (first_goes (maps_causes shift_sheet.maps true ms) _ (maps_numbered shift_sheet.maps true ms) (maps_clear f.together)
      ∙ rw (le-ltb (length k) (header_bytes + length ts + widths ms) (omega (arith, long)), le-ltb (header_bytes + length ts + widths ms) (length k) (omega (arith, long))))

  -- what a kept form is made of is what is read of it
  pub kept_reads : KeptReads k counts ms ts
  unfolding kept_causes archive
  kept_reads =
      let values : first_of (turns_causes shift_sheet.refusals (counts_in k) (kept_turns k)) ≡ 0 = rw (counts_in_lem, turns_in_lem) (turns_clear f.together) in
      record {
        fine = first_goes (header_causes archive k) _ (header_numbered archive archive_sound.numbers k) header_clear ∙ first_goes (form_causes k) _ (form_numbered k) form_clear ∙ values;
        counts_are = counts_in_lem;
        count_is = count;
        maps_are = maps_in;
        turns_are = turns_in_lem;
      }

  -- how long it is
  pub kept_long : length k ≡ header_bytes + length ms + widths ms
  kept_long = omega (arith, long, same)

-- an accepted kept form has one reading
pub kept_unique : {k : List ℕ} {counts counts' : Counts} {ms ms' : List ℕ} {ts ts' : List Turn} → KeptFor k counts ms ts → KeptFor k counts' ms' ts' → (counts ≡ counts') × (ms ≡ ms') × (ts ≡ ts')
kept_unique {k} {counts} {counts'} {ms} {ms'} {ts} {ts'} f g =
    let a = kept_reads k counts ms ts f in
    let b = kept_reads k counts' ms' ts' g in
    (sym a.counts_are ∙ b.counts_are, sym a.maps_are ∙ b.maps_are, sym a.turns_are ∙ b.turns_are)

-- ---- from what is read to maps and turns

across_length : (n : ℕ) → (k : List ℕ) → (i : ℕ) → length (turns_across n (columns_in (kept_maps k) k (columns_at k)) i) ≡ n
unfolding turns_across
across_length zero k i = refl
across_length (suc n) k i = ap suc (across_length n k (i + 1))

-- nothing is wrong with the form: it has its maps, and its columns end where it does
pub record FineForm (k : List ℕ) : Type 0 where
  pub maps_whole : columns_at k ≤ length k
  pub maps_fine : first_of (maps_causes archive.maps true (kept_maps k)) ≡ 0
  pub ends : kept_end k ≡ length k

pub form_fine : (k : List ℕ) → first_of (form_causes k) ≡ 0 → FineForm k
unfolding form_causes
form_fine k e =
    let short = truncated when ltb (length k) (kept_end k) in
    let long = trailing_bytes when ltb (kept_end k) (length k) in
    let p = clear_cons (truncated when ltb (length k) (columns_at k)) _ (omega arith) e in
    let q = clear_append (maps_causes archive.maps true (kept_maps k)) (short ∷ long ∷ []) (maps_numbered archive.maps true (kept_maps k)) p.1 in
    let r = clear_cons short (long ∷ []) (omega arith) q.1 in
    let s = clear_cons long [] (omega arith) r.1 in
    record {
      maps_whole = ltb-false (length k) (columns_at k) p.0;
      maps_fine = q.0;
      ends = omega (arith, ltb-false (length k) (kept_end k) r.0, ltb-false (kept_end k) (length k) s.0);
    }

pub maps_count : (k : List ℕ) → columns_at k ≤ length k → length (kept_maps k) ≡ turn_count k
unfolding kept_maps
maps_count k h = length-take-le (turn_count k) (drop header_bytes k) (omega (arith, length-drop header_bytes k))

pub turns_long : (k : List ℕ) → length (kept_turns k) ≡ length (kept_maps k)
unfolding kept_turns
turns_long k = across_length (length (kept_maps k)) k 0

archive_stands : {k : List ℕ} → Bytes k → header_bytes ≤ length k → opens_with archive.mark k ≡ true → k ≡ header_for kept_mark (counts_in k) (turn_count k) ++ drop header_bytes k
unfolding archive
archive_stands {k} b whole mark = header_stands archive archive_sound b whole ((mark_iff archive_sound.mark k).0 mark)

body_stands : {k : List ℕ} → Bytes k → columns_at k ≤ length k → kept_end k ≡ length k → drop header_bytes k ≡ columns_body (kept_maps k) (kept_turns k)
unfolding columns_body kept_turns kept_end kept_maps
body_stands {k} b h e =
    let rest : drop (turn_count k) (drop header_bytes k) ≡ columns_of (kept_maps k) (kept_turns k) = drop-drop (turn_count k) header_bytes k ∙ columns_stand b (kept_maps k) (columns_at k) e in
    sym (take-append-drop (turn_count k) (drop header_bytes k)) ∙ ap (λ (l : List ℕ). kept_maps k ++ l) rest

goes_together : (k : List ℕ) → first_of (maps_causes archive.maps true (kept_maps k)) ≡ 0 → first_of (turns_causes archive.refusals (counts_in k) (kept_turns k)) ≡ 0
    → Together (counts_in k) true first_cursor.prev (kept_maps k) (kept_turns k)
unfolding kept_turns archive first_cursor
goes_together k e f =
    together_read (columns_in (kept_maps k) k (columns_at k)) k (counts_in k) (kept_maps k) 0 true first_cursor.prev (going_first (kept_maps k) k (columns_at k) first_cursor.prev refl refl refl refl refl refl) e f

module _ {k : List ℕ} (b : Bytes k) where
  pub reads_kept : first_of (kept_causes k) ≡ 0 → KeptFor k (counts_in k) (kept_maps k) (kept_turns k)
  unfolding kept_causes
  reads_kept e =
      let p = clear_append (header_causes archive k) _ (header_numbered archive archive_sound.numbers k) e in
      let q = clear_append (form_causes k) _ (form_numbered k) p.1 in
      let h = header_fine archive archive_sound.numbers k p.0 in
      let f = form_fine k q.0 in
      let n = maps_count k f.maps_whole in
      let m = turns_long k in
      record {
        legal = rw (m, n) (archive_legal h.legal);
        together = goes_together k f.maps_fine q.1;
        bytes = rw (m, n) (archive_stands b h.whole h.mark ∙ ap (λ (l : List ℕ). header_for kept_mark (counts_in k) (turn_count k) ++ l) (body_stands b f.maps_whole f.ends));
      }

  -- the executable reading refuses nothing just if the kept form is accepted
  pub accepted_kept_iff : (first_of (kept_causes k) ≡ 0) ↔ AcceptedKept k
  accepted_kept_iff = (λ e. record { counts = counts_in k; maps = kept_maps k; turns = kept_turns k; kept = reads_kept e }, λ a. (kept_reads k a.counts a.maps a.turns a.kept).fine)
