-- What is written is an accepted sheet of the same counts and turns in the written order, and reading it gives them. Assumes nothing.
use Prim.Native.Nat.{ℕ, ◌*◌, ◌/◌, ◌%◌, ◌<◌, ◌≤◌}
use mathlib.Core.Path.{◌≡◌, refl, sym, ◌∙◌, ap, subst}
use mathlib.Core.Logic.{◌↔◌}
use mathlib.Core.Bool.{Bool, true, false, cond}
use mathlib.Core.List.{List, [], ◌∷◌}
use native.Mathlib.Omega.{arith}
use lib.ListN.{length, take}
use lib.Seq.{take-append_seam}
use lib.Dec.{eqb, ltb}
use borrow.Author.Tests.{le-ltb, eq-eqb}
use Rattle.lists.specs.Lists.{All}
use Rattle.lists.specs.Sorting.{InOrder}
use Rattle.lists.proofs.Sorted.{sort_all}
use Rattle.refusal.specs.Number.{buffer_too_small}
use Rattle.refusal.specs.Cause.{◌when◌, first_of}
use Rattle.refusal.specs.Written.{Written, wrote, at_front}
use Rattle.refusal.proofs.Order.{first_goes}
use Rattle.refusal.proofs.Written.{wrote_enough, written_number}
use Rattle.wire.specs.Number.{bytes_of, Bytes, none, more}
use Rattle.wire.specs.Mark.{sheet_mark}
use Rattle.wire.proofs.Numbers.{bytes_below, bytes_append}
use Rattle.turn.specs.declared.Turn.{Turn}
use Rattle.turn.specs.declared.Counts.{Counts}
use Rattle.turn.specs.Turn.{row_numbers, rows, table_rows, table_turns, InRange}
use Rattle.turn.proofs.Rows.{rows_length, table_turns_length, turns_rows}
use Rattle.sheet.specs.Kind.{shift_sheet}
use Rattle.sheet.specs.Record.{first_cursor}
use Rattle.sheet.specs.Read.{counts_in, turn_count, count_causes, causes_for, turns_of, table_of, read_causes_for, read_refused, read_for, read_of, Reading}
use Rattle.sheet.specs.Layout.{field_bytes, record_of}
use Rattle.sheet.specs.Accepted.{Legal, Records, SheetFor, Accepted}
use Rattle.sheet.specs.Accepted as accepted
use Rattle.sheet.proofs.SoundKinds.{shift_sheet_sound}
use Rattle.sheet.proofs.Headers.{legal_counts, counts_numbered}
use Rattle.sheet.proofs.Readings.{causes_numbered}
use Rattle.sheet.proofs.Accepting.{sheet_reads}
use Rattle.write_spec.specs.Order.{turn_at_most, sorted_turns, SameTurns, InWrittenOrder}
use Rattle.write_spec.specs.Write.{map_for, records_of, all_records, sheet_of, written_turns, turns_causes, table_causes, write_causes, write_of}
use Rattle.write_spec.proofs.WriteMaps.{map_good, map_below, map_carries}
use Rattle.write_spec.proofs.Orders.{sorted_length, sorted_iff, sorted_order, sorted_same, sorted_stay, sorted_twice, unsorted_all}
use Rattle.write_spec.proofs.Writable.{Writable, table_writable, table_numbered, fine_all, all_fine, write_clear}
use Rattle.write_spec.proofs.Shortest.{shortest, shortest_only}
use Rattle.refusal.specs.Outcome.{beside, unless}
use Rattle.refusal.proofs.Outcome.{enough_iff}

-- ---- what is written is a sheet of these turns

records_written : (counts : Counts) (first : Bool) (p : Turn) {ts : List Turn} → All (InRange counts) ts → Records shift_sheet counts first p (records_of first p ts) ts
unfolding records_of
records_written counts first p All.none = accepted.Records.none
records_written counts first p (All.more {t = t} r rs) = accepted.Records.more (map_good first p t) (map_carries first p t) r (records_written counts false t rs)

pub sheet_for : (counts : Counts) (ts : List Turn) → Legal shift_sheet counts (length ts) → first_of (turns_causes shift_sheet.refusals counts ts) ≡ 0 → SheetFor shift_sheet (sheet_of counts ts) counts ts
unfolding sheet_of shift_sheet
sheet_for counts ts l e = record { legal = l; body = all_records ts; bytes = refl; records = records_written counts true first_cursor.prev (fine_all counts ts e) }

-- ---- and its numbers are bytes

field_below : (bit width v : ℕ) → Bytes (field_bytes bit width v)
field_below bit width v = go (eqb bit 0)
  where
    go : (b : Bool) → Bytes (cond b [] (bytes_of width v))
    go true = none
    go false = bytes_below width v

record_below : (m : ℕ) (t : Turn) → m < 256 → Bytes (record_of m t)
unfolding record_of
record_below m t h =
    let slope = field_below (m % 2) 1 t.slope in
    let groomer = field_below (m / 2 % 2) 1 t.groomer in
    let start = field_below (m / 4 % 2) 2 t.start in
    let len = field_below (m / 8 % 2) 2 t.length in
    let worth = field_below (m / 16 % 2) 2 t.worth in
    let driver = field_below (m / 32 % 2) 1 t.driver in
    more h (bytes_append slope (bytes_append groomer (bytes_append start (bytes_append len (bytes_append worth driver)))))

records_below : (first : Bool) (p : Turn) (ts : List Turn) → Bytes (records_of first p ts)
unfolding records_of
records_below first p [] = none
records_below first p (t ∷ ts) = let h = map_below first (map_for first p t) (map_good first p t) in bytes_append (record_below (map_for first p t) t (omega arith)) (records_below false t ts)

sheet_below : (counts : Counts) (ts : List Turn) → counts.groomers < 256 → counts.slopes < 256 → Bytes (sheet_of counts ts)
unfolding sheet_of
sheet_below counts ts g s =
    let mark : Bytes sheet_mark = more {b = 0x47} (omega arith) (more {b = 0x52} (omega arith) (more {b = 0x4D} (omega arith) none)) in
    bytes_append mark (more g (more s (bytes_append (bytes_below 2 (length ts)) (records_below true first_cursor.prev ts))))

module _ (counts : Counts) (table : List ℕ) (e : first_of (table_causes counts table) ≡ 0) where
  pub written_rows : length (written_turns table) ≡ table_rows table
  written_rows = sorted_length (table_turns table) ∙ table_turns_length (table_rows table) table 0

  pub written_sheet : SheetFor shift_sheet (sheet_of counts (written_turns table)) counts (written_turns table)
  unfolding sorted_turns
  written_sheet =
      let s = table_writable counts table e in
      let all = sort_all turn_at_most (InRange counts) (fine_all counts (table_turns table) s.fine) in
      sheet_for counts (written_turns table) (rw written_rows s.legal) (all_fine counts all)

  pub written_accepted : Accepted (sheet_of counts (written_turns table))
  written_accepted = record { counts = counts; turns = written_turns table; sheet = written_sheet }

  pub written_bytes : Bytes (sheet_of counts (written_turns table))
  unfolding shift_sheet
  written_bytes = let l = (table_writable counts table e).legal in sheet_below counts (written_turns table) (omega arith) (omega arith)

-- ---- reading

-- what the reader gives for a sheet of these counts and turns: it depends on nothing else
abbrev pub reading_of : Counts → List Turn → List ℕ → Reading
reading_of counts ts lent =
    cond
    (ltb (length lent) (row_numbers * length ts))
    (beside (read_refused buffer_too_small) lent)
    (beside (record { refusal = 0; groomers = counts.groomers; slopes = counts.slopes; turns = length ts }) (at_front (rows ts) lent))

pub reading : {s : List ℕ} {counts : Counts} {ts : List Turn} → SheetFor shift_sheet s counts ts → (lent : List ℕ) → read_of s lent ≡ reading_of counts ts lent
unfolding read_of read_for read_causes_for first_of table_of unless
reading {s} {counts} {ts} f lent =
    let r = sheet_reads shift_sheet shift_sheet_sound s counts ts f in
    let n : first_of (read_causes_for shift_sheet s (length lent)) ≡ cond (ltb (length lent) (row_numbers * length ts)) buffer_too_small 0 =
    first_goes (causes_for shift_sheet s) (buffer_too_small when ltb (length lent) (row_numbers * turn_count s) ∷ []) (causes_numbered shift_sheet shift_sheet_sound.numbers s) r.0 ∙ rw r.3 in
    rw (n, ap (λ (c : Counts). c.groomers) r.1, ap (λ (c : Counts). c.slopes) r.1, r.2, r.3) (go (ltb (length lent) (row_numbers * length ts)))
  where
    go : (b : Bool)
        → cond (eqb (cond b buffer_too_small 0) 0) (beside (record { refusal = 0; groomers = counts.groomers; slopes = counts.slopes; turns = length ts }) (at_front (rows ts) lent)) (beside (read_refused (cond b buffer_too_small 0)) lent)
        ≡ cond b (beside (read_refused buffer_too_small) lent) (beside (record { refusal = 0; groomers = counts.groomers; slopes = counts.slopes; turns = length ts }) (at_front (rows ts) lent))
    go true = refl
    go false = refl

-- ---- writing

module _ (counts : Counts) (table out : List ℕ) where
  -- nothing is wrong with a table and the lent bytes are enough: its sheet is written
  pub writing : first_of (table_causes counts table) ≡ 0 → length (sheet_of counts (written_turns table)) ≤ length out → write_of counts table out ≡ wrote (sheet_of counts (written_turns table)) out
  unfolding write_of write_causes
  writing e l = wrote_enough (table_causes counts table) _ _ out (table_numbered counts table) e l

  -- the writer's number is that of the first cause
  pub write_number : (write_of counts table out).answer.refusal ≡ first_of (write_causes counts table (length out))
  unfolding write_of
  write_number = written_number (write_causes counts table (length out)) _ out

  pub write_accepts : (write_of counts table out).answer.refusal ≡ 0 → (first_of (table_causes counts table) ≡ 0) × (length (sheet_of counts (written_turns table)) ≤ length out)
  unfolding write_causes
  write_accepts e = (enough_iff (table_causes counts table) (length out) (length (sheet_of counts (written_turns table))) (table_numbered counts table)).0 (sym write_number ∙ e)

-- a table that was written is written wherever there are as many lent bytes as its sheet has, and nowhere else
pub write_room_iff : (counts : Counts) (table out : List ℕ) → (write_of counts table out).answer.refusal ≡ 0 →
    (lent : List ℕ) → ((write_of counts table lent).answer.refusal ≡ 0) ↔ ((write_of counts table out).answer.bytes ≤ length lent)
write_room_iff counts table out z lent =
    let (e, l) = write_accepts counts table out z in
    let bytes : (write_of counts table out).answer.bytes ≡ length (sheet_of counts (written_turns table)) = ap (λ (w : Written). w.answer.bytes) (writing counts table out e l) in
    (λ f. rw bytes (write_accepts counts table lent f).1, λ h. ap (λ (w : Written). w.answer.refusal) (writing counts table lent e (rw bytes at h)))

-- ---- there and back

-- a table that the writer accepts, read from the sheet that it writes, into any lent table long enough: these counts, its turns in the written order, and the rest as it was
pub sheet_back : (counts : Counts) (table lent : List ℕ) → first_of (table_causes counts table) ≡ 0 → length table ≤ length lent
    → read_of (sheet_of counts (written_turns table)) lent ≡ beside (record { refusal = 0; groomers = counts.groomers; slopes = counts.slopes; turns = table_rows table }) (at_front (rows (written_turns table)) lent)
sheet_back counts table lent e l =
    reading (written_sheet counts table e) lent ∙ rw (written_rows counts table e, le-ltb (length lent) (row_numbers * table_rows table) (omega arith))

-- the same of what the writer left in any lent bytes where it refused nothing
pub write_then_read : (counts : Counts) (table out lent : List ℕ) → (write_of counts table out).answer.refusal ≡ 0 → length table ≤ length lent
    → read_of (take (write_of counts table out).answer.bytes (write_of counts table out).lent) lent ≡ beside (record { refusal = 0; groomers = counts.groomers; slopes = counts.slopes; turns = table_rows table }) (at_front (rows (written_turns table)) lent)
write_then_read counts table out lent e l =
    let a = write_accepts counts table out e in
    rw (writing counts table out a.0 a.1, take-append_seam) (sheet_back counts table lent a.0 l)

-- the turns of the table so read are those of the table that was written, each as often, in the written order
pub read_in_order : (table : List ℕ) → InWrittenOrder (table_turns table) (table_turns (rows (written_turns table)))
read_in_order table = rw (turns_rows (written_turns table)) (sorted_order (table_turns table))

-- ---- a sheet that was read, written again

pub writable_table : (counts : Counts) (table : List ℕ) → Writable counts table → first_of (table_causes counts table) ≡ 0
unfolding table_causes first_of
writable_table counts table s =
    let n = counts_numbered shift_sheet counts (table_rows table) shift_sheet_sound.numbers in
    rw (eq-eqb (length table % row_numbers) 0 s.whole) (first_goes (count_causes shift_sheet counts (table_rows table)) _ n (legal_counts shift_sheet counts (table_rows table) s.legal) ∙ s.fine)

records_in_range : {limits : Counts} {first : Bool} {p : Turn} {bytes : List ℕ} {ts : List Turn} → Records shift_sheet limits first p bytes ts → All (InRange limits) ts
records_in_range accepted.Records.none = All.none
records_in_range (accepted.Records.more map kept fits r) = All.more fits (records_in_range r)

-- the table of a sheet of these counts and turns is one that the writer accepts
sheet_table : {s : List ℕ} {counts : Counts} {ts : List Turn} → SheetFor shift_sheet s counts ts → first_of (table_causes counts (rows ts)) ≡ 0
sheet_table {s} {counts} {ts} f =
    let n : table_rows (rows ts) ≡ length ts = omega (arith, rows_length ts) in
    writable_table counts (rows ts) (record { whole = omega (arith, rows_length ts); legal = rw n f.legal; fine = rw (turns_rows ts) (all_fine counts (records_in_range f.records)) })

-- an accepted sheet's table, written with its counts: the turns are the same, the writer takes them, and its sheet reads as them in the written order;
-- if they are in that order already, it reads the same into every table and is no longer
pub record Rewritten (s : List ℕ) : Type 0 where
  pub turns_same : table_turns (table_of s) ≡ turns_of s
  pub writes : (out : List ℕ) → length (sheet_of (counts_in s) (sorted_turns (turns_of s))) ≤ length out → write_of (counts_in s) (table_of s) out ≡ wrote (sheet_of (counts_in s) (sorted_turns (turns_of s))) out
  pub reads_sorted : (lent : List ℕ) → read_of (sheet_of (counts_in s) (sorted_turns (turns_of s))) lent ≡ reading_of (counts_in s) (sorted_turns (turns_of s)) lent
  pub reads_same : InOrder turn_at_most (turns_of s) → (lent : List ℕ) → read_of (sheet_of (counts_in s) (sorted_turns (turns_of s))) lent ≡ read_of s lent
  pub no_longer : InOrder turn_at_most (turns_of s) → length (sheet_of (counts_in s) (sorted_turns (turns_of s))) ≤ length s

pub rewritten : (s : List ℕ) → Accepted s → Rewritten s
unfolding table_of
rewritten s a =
    let r = sheet_reads shift_sheet shift_sheet_sound s a.counts a.turns a.sheet in
    let f : SheetFor shift_sheet s (counts_in s) (turns_of s) = rw (r.1, r.2) a.sheet in
    let t = turns_rows (turns_of s) in
    let e = sheet_table f in
    let w : SheetFor shift_sheet (sheet_of (counts_in s) (sorted_turns (turns_of s))) (counts_in s) (sorted_turns (turns_of s)) = subst (λ (ts : List Turn). SheetFor shift_sheet (sheet_of (counts_in s) (sorted_turns ts)) (counts_in s) (sorted_turns ts)) t (written_sheet (counts_in s) (rows (turns_of s)) e) in
    record {
      turns_same = t;
      writes = λ out l. writing (counts_in s) (rows (turns_of s)) out e (rw t l) ∙ rw t;
      reads_sorted = λ lent. reading w lent;
      reads_same = λ o lent. reading w lent ∙ rw (sorted_stay (turns_of s) o) (sym (reading f lent));
      no_longer = λ o. rw (sorted_stay (turns_of s) o) (shortest f);
    }

-- ---- one sheet for a table's turns

-- tables with the same turns, each as often: what the writer takes of one it takes of the other, and gives the same
pub one_sheet : (counts : Counts) (a b out : List ℕ) → SameTurns (table_turns a) (table_turns b) → length b % row_numbers ≡ 0 → first_of (table_causes counts a) ≡ 0 → write_of counts b out ≡ write_of counts a out
unfolding sorted_turns
one_sheet counts a b out same whole e =
    let s = table_writable counts a e in
    let t : written_turns a ≡ written_turns b = sorted_same (table_turns a) (table_turns b) same in
    let n : table_rows b ≡ table_rows a = sym (table_turns_length (table_rows b) b 0) ∙ sym (sorted_length (table_turns b)) ∙ sym (ap length t) ∙ sorted_length (table_turns a) ∙ table_turns_length (table_rows a) a 0 in
    let all : All (InRange counts) (written_turns b) = subst (All (InRange counts)) t (sort_all turn_at_most (InRange counts) (fine_all counts (table_turns a) s.fine)) in
    let z = writable_table counts b (record { whole = whole; legal = rw n s.legal; fine = all_fine counts (unsorted_all turn_at_most (InRange counts) (table_turns b) all) }) in
    write_clear counts b out z ∙ rw (← t) (sym (write_clear counts a out e))

-- of sheets with a table's turns in the written order, none is shorter than the one that is written, and none of its length is another
module _ (counts : Counts) (table : List ℕ) {s : List ℕ} {ts : List Turn} (f : SheetFor shift_sheet s counts ts) (o : InWrittenOrder (table_turns table) ts) where
  in_order_sheet : SheetFor shift_sheet s counts (written_turns table)
  in_order_sheet = subst (λ (us : List Turn). SheetFor shift_sheet s counts us) ((sorted_iff (table_turns table) ts).0 o) f

  pub written_shortest : length (sheet_of counts (written_turns table)) ≤ length s
  written_shortest = shortest in_order_sheet

  pub written_only : length s ≡ length (sheet_of counts (written_turns table)) → s ≡ sheet_of counts (written_turns table)
  written_only e = shortest_only in_order_sheet e

-- what was read of a written sheet, written again, is that sheet
pub write_again : (counts : Counts) (table out : List ℕ) → first_of (table_causes counts table) ≡ 0 → length (sheet_of counts (written_turns table)) ≤ length out
    → write_of (counts_in (sheet_of counts (written_turns table))) (table_of (sheet_of counts (written_turns table))) out ≡ wrote (sheet_of counts (written_turns table)) out
unfolding table_of
write_again counts table out e l =
    let s = sheet_of counts (written_turns table) in
    let r = sheet_reads shift_sheet shift_sheet_sound s counts (written_turns table) (written_sheet counts table e) in
    let again : sheet_of (counts_in s) (sorted_turns (turns_of s)) ≡ s = rw (r.1, r.2, sorted_twice) in
    (rewritten s (written_accepted counts table e)).writes out (rw again l) ∙ ap (λ (w : List ℕ). wrote w out) again
