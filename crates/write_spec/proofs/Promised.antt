-- What is promised of the bytes that the writer says it wrote, where it refuses nothing. Assumes nothing.
use Prim.Native.Nat.{ℕ, ◌≤◌}
use mathlib.Core.Path.{◌≡◌, refl, sym, ◌∙◌, ap}
use mathlib.Core.Bool.{true}
use mathlib.Core.List.{List, ◌∷◌}
use native.Mathlib.Omega.{arith}
use lib.ListN.{length, get_or, drop}
use lib.Seq.{take-append_seam, drop-append_seam, take_at, drop_at}
use Rattle.refusal.specs.Cause.{first_of}
use Rattle.refusal.specs.Written.{wrote, at_front}
use Rattle.turn.specs.declared.Turn.{Turn}
use Rattle.turn.specs.declared.Counts.{Counts}
use Rattle.turn.specs.Turn.{rows, table_rows, table_turns}
use Rattle.turn.proofs.Rows.{rows_length, turns_rows}
use Rattle.sheet.specs.Kind.{shift_sheet}
use Rattle.sheet.specs.Record.{first_cursor}
use Rattle.sheet.specs.Read.{table_of, read_of}
use Rattle.sheet.specs.Layout.{record_of}
use Rattle.sheet.proofs.SoundKinds.{shift_sheet_sound}
use Rattle.sheet.proofs.Accepting.{sheet_reads}
use Rattle.write_spec.specs.Order.{InWrittenOrder}
use Rattle.write_spec.specs.Write.{map_for, records_of, sheet_of, written_turns, table_causes, write_of}
use Rattle.write_spec.specs.Promises.{bytes_written, table_back, counts_back, WritePromised}
use Rattle.write_spec.proofs.Orders.{sorted_iff, sorted_order}
use Rattle.write_spec.proofs.Writable.{table_writable}
use Rattle.write_spec.proofs.WriteMaps.{first_full_iff, first_least}
use Rattle.write_spec.proofs.RoundTrip.{written_rows, written_sheet, written_accepted, written_bytes, writing, write_accepts, write_then_read, one_sheet, written_shortest, written_only, write_again}
use Rattle.refusal.specs.Outcome.{beside}

-- byte 7 of a sheet that has a turn is the first map
map_there : (counts : Counts) (t : Turn) (ts : List Turn) → get_or (sheet_of counts (t ∷ ts)) 7 0 ≡ map_for true first_cursor.prev t
unfolding sheet_of records_of record_of
map_there counts t ts = refl

module _ (counts : Counts) (table out : List ℕ) (z : (write_of counts table out).answer.refusal ≡ 0) where
  fine : first_of (table_causes counts table) ≡ 0
  fine = (write_accepts counts table out z).0

  is_wrote : write_of counts table out ≡ wrote (sheet_of counts (written_turns table)) out
  is_wrote = writing counts table out fine (write_accepts counts table out z).1

  is_sheet : bytes_written counts table out ≡ sheet_of counts (written_turns table)
  is_sheet = rw is_wrote (take-append_seam _ _)

  -- ---- reading

  numbers : length (rows (written_turns table)) ≡ length table
  numbers = let w = (table_writable counts table fine).whole in omega (arith, rows_length (written_turns table), written_rows counts table fine)

  module _ (lent : List ℕ) (l : length table ≤ length lent) where
    is_read : read_of (bytes_written counts table out) lent ≡ beside (record { refusal = 0; groomers = counts.groomers; slopes = counts.slopes; turns = table_rows table }) (at_front (rows (written_turns table)) lent)
    is_read = write_then_read counts table out lent z l

    is_table : table_back counts table out lent ≡ rows (written_turns table)
    is_table = rw is_read (take_at (rows (written_turns table)) _ (length table) numbers)

    is_behind : drop (length table) (read_of (bytes_written counts table out) lent).lent ≡ drop (length table) lent
    is_behind = rw is_read (drop_at (rows (written_turns table)) _ (length table) numbers ∙ ap (λ (n : ℕ). drop n lent) numbers)

    is_counts : counts_back counts table out lent ≡ counts
    is_counts = rw is_read

  -- ---- written again

  sheet_again : (other : List ℕ) → length (sheet_of counts (written_turns table)) ≤ length other → write_of counts (rows (written_turns table)) other ≡ wrote (sheet_of counts (written_turns table)) other
  unfolding table_of
  sheet_again other h =
      let r = sheet_reads shift_sheet shift_sheet_sound (sheet_of counts (written_turns table)) counts (written_turns table) (written_sheet counts table fine) in
      rw (r.1, r.2) at (write_again counts table other fine h)

  -- ---- the first map

  sheet_first : (t : Turn) (ts : List Turn) → InWrittenOrder (table_turns table) (t ∷ ts) → get_or (bytes_written counts table out) 7 0 ≡ map_for true first_cursor.prev t
  sheet_first t ts o = let e : t ∷ ts ≡ written_turns table = (sorted_iff (table_turns table) (t ∷ ts)).0 o in rw (is_sheet, ← e) (map_there counts t ts)

  pub write_promised : WritePromised counts table out
  write_promised =
      record {
        many = rw (is_sheet, is_wrote);
        below = rw is_sheet (written_bytes counts table fine);
        accepted = rw is_sheet (written_accepted counts table fine);
        its_counts = rw is_sheet (sheet_reads shift_sheet shift_sheet_sound (sheet_of counts (written_turns table)) counts (written_turns table) (written_sheet counts table fine)).1;
        read_answer = λ lent l. rw (is_read lent l);
        read_turns = λ lent l. rw (is_table lent l, turns_rows) (sorted_order (table_turns table));
        read_behind = is_behind;
        shortest = λ f o. rw is_sheet (written_shortest counts table f o);
        only = λ f o e. written_only counts table f o (e ∙ ap length is_sheet) ∙ sym is_sheet;
        again = λ lent other l h. rw (is_counts lent l, is_table lent l, is_sheet) (sheet_again other (rw is_sheet at h));
        one_sheet = λ other same whole. one_sheet counts table other out same whole fine;
        first_map_lem = λ t ts o. rw (sheet_first t ts o) (first_full_iff t);
        first_map_else = λ t ts o d. rw (sheet_first t ts o) (first_least t d);
        behind = rw is_wrote (drop-append_seam (sheet_of counts (written_turns table)) _);
      }
