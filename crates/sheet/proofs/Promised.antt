-- What the reader hands back is what is promised, for every kind of sheet. Assumes nothing.
use Prim.Native.Nat.{ℕ, ◌*◌}
use mathlib.Core.Path.{◌≡◌, ◌∙◌, ap, refl}
use mathlib.Core.List.{List}
use native.Mathlib.Omega.{arith}
use lib.ListN.{length, drop}
use lib.Seq.{take_at, drop_at}
use Rattle.wire.specs.Number.{Bytes}
use Rattle.turn.specs.Turn.{row_numbers, rows}
use Rattle.turn.proofs.Rows.{rows_length}
use Rattle.sheet.specs.Kind.{Kind, shift_sheet, Sound}
use Rattle.sheet.specs.Read.{turn_count, table_of, read_refused, read_answer, read_causes_for, read_for, read_of, Reading}
use Rattle.refusal.specs.Written.{at_front}
use Rattle.sheet.specs.Accepted.{AcceptedFor}
use Rattle.sheet.specs.Promises.{ReadInto, ReadPromisedFor, ReadPromised}
use Rattle.sheet.proofs.SoundKinds.{shift_sheet_sound}
use Rattle.sheet.proofs.Accepting.{sheet_reads, read_accepted_iff_for}
use Rattle.refusal.specs.Outcome.{beside}
use Rattle.refusal.proofs.Outcome.{number_none, number_refused}

module _ (K : Kind) (s lent : List ℕ) where
  -- where nothing is refused the lent table begins with the sheet's, and goes on as it was
  pub read_whole : (read_for K s lent).answer.refusal ≡ 0 → read_for K s lent ≡ beside (read_answer s) (at_front (table_of s) lent)
  unfolding read_for
  read_whole = number_none (read_causes_for K s (length lent)) _ _ (λ (o : Reading). o.answer.refusal) refl (λ k. refl)

  -- a refusal leaves it as it was
  pub read_refused_lem : ((read_for K s lent).answer.refusal ≡ 0 → ⊥) → read_for K s lent ≡ beside (read_refused (read_for K s lent).answer.refusal) lent
  unfolding read_for
  read_refused_lem = number_refused (read_causes_for K s (length lent)) _ _ (λ (o : Reading). o.answer.refusal) refl (λ k. refl)

  module _ (sound : Sound K) (a : AcceptedFor K s) where
    table_of_lem : table_of s ≡ rows a.turns
    unfolding table_of
    table_of_lem = ap rows (sheet_reads K sound s a.counts a.turns a.sheet).2

    read_into : (read_for K s lent).answer.refusal ≡ 0 → ReadInto K s lent a (read_for K s lent)
    read_into z =
        let r = sheet_reads K sound s a.counts a.turns a.sheet in
        let whole = read_whole z in
        let table : (read_for K s lent).lent ≡ at_front (rows a.turns) lent = ap (λ (o : Reading). o.lent) whole ∙ ap (λ (t : List ℕ). at_front t lent) table_of_lem in
        let n = row_numbers * length a.turns in
        let size : length (rows a.turns) ≡ n = rows_length a.turns in
        record {
          answer = ap (λ (o : Reading). o.answer) whole ∙ (λ i. record { refusal = 0; groomers = (r.1 i).groomers; slopes = (r.1 i).slopes; turns = r.3 i });
          front = rw table (take_at (rows a.turns) (drop (length (rows a.turns)) lent) n size);
          behind = rw table (drop_at (rows a.turns) (drop (length (rows a.turns)) lent) n size ∙ ap (λ (k : ℕ). drop k lent) size);
        }

-- for every kind
pub read_promised_for : (K : Kind) → Sound K → {s : List ℕ} → Bytes s → (lent : List ℕ) → ReadPromisedFor K s lent (read_for K s lent)
read_promised_for K sound {s} b lent =
    record {
      exactly = (
        λ z. let h = (read_accepted_iff_for K sound b lent).0 z in (h.0, omega (arith, h.1, many h.0)),
        λ (a, l). (read_accepted_iff_for K sound b lent).1 (a, omega (arith, l, many a)),
      );
      reads = λ z a. read_into K s lent sound a z;
      refuses = read_refused_lem K s lent;
    }
  where
    many : (a : AcceptedFor K s) → turn_count s ≡ length a.turns
    many a = (sheet_reads K sound s a.counts a.turns a.sheet).3

-- a shift's
pub read_promised : {s : List ℕ} → Bytes s → (lent : List ℕ) → ReadPromised s lent
unfolding read_of
read_promised b lent = read_promised_for shift_sheet shift_sheet_sound b lent
