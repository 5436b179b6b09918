-- Records one after another: what the loop keeps as it goes on. Assumes nothing.
use Prim.Native.Nat.{ℕ, suc, ◌+◌, ◌-◌, ◌<◌, ◌≤◌}
use mathlib.Core.Path.{◌≡◌, sym, ◌∙◌, ap}
use mathlib.Core.Bool.{true}
use mathlib.Core.List.{List, ◌∷◌, ◌++◌}
use native.Mathlib.Omega.{arith}
use lib.ListN.{length}
use borrow.Author.Tests.{lt-ltb, le-ltb}
use Rattle.refusal.specs.Number.{trailing_bytes}
use Rattle.refusal.specs.Cause.{first_of}
use Rattle.refusal.proofs.Numbers.{refuses}
use Rattle.refusal.proofs.Order.{numbered, first_stops, first_goes}
use Rattle.wire.specs.Number.{puts}
use Rattle.wire.proofs.Puts.{puts_append}
use Rattle.turn.specs.declared.Turn.{Turn}
use Rattle.turn.specs.declared.Counts.{Counts}
use Rattle.turn.specs.Turn.{row_numbers, row_of, rows, Numbered}
use Rattle.turn.proofs.Ranges.{turn_numbered}
use Rattle.sheet.specs.Kind.{Kind}
use Rattle.sheet.specs.declared.record.Cursor.{Cursor}
use Rattle.sheet.specs.Record.{turn_at, cursor_after, record_causes}
use Rattle.sheet.specs.Read.{records_causes, turns_from}

-- ---- what an answer of the reader's says

pub record_numbered : (K : Kind) → Numbered K.refusals → (s : List ℕ) (limits : Counts) (c : Cursor) → numbered (record_causes K s limits c) ≡ true
unfolding record_causes
record_numbered K numbers s limits c = turn_numbered K.refusals limits (turn_at s c) numbers

-- ---- one record of several

causes_more : (K : Kind) (n i : ℕ) (s : List ℕ) (limits : Counts) (c : Cursor) → i < n → records_causes K (n - i) s limits c ≡ record_causes K s limits c ++ records_causes K (n - (i + 1)) s limits (cursor_after s c)
unfolding records_causes
causes_more K n i s limits c h = let k : n - i ≡ suc (n - (i + 1)) = omega arith in rw k

turns_more : (n i : ℕ) (s : List ℕ) (c : Cursor) → i < n → turns_from (n - i) s c ≡ turn_at s c ∷ turns_from (n - (i + 1)) s (cursor_after s c)
unfolding turns_from
turns_more n i s c h = let k : n - i ≡ suc (n - (i + 1)) = omega arith in rw k

pub scan_start : (K : Kind) (n : ℕ) (s : List ℕ) (limits : Counts) (c : Cursor) → first_of (records_causes K (n - 0) s limits c) ≡ first_of (records_causes K n s limits c)
scan_start K n s limits c = let k : n - 0 ≡ n = omega arith in rw k

pub scan_table_start : (n : ℕ) (s : List ℕ) (c : Cursor) (l : List ℕ) → puts l 0 (rows (turns_from (n - 0) s c)) ≡ puts l 0 (rows (turns_from n s c))
scan_table_start n s c l = let k : n - 0 ≡ n = omega arith in rw k

module _ (K : Kind) (n i : ℕ) (s : List ℕ) (limits : Counts) (c : Cursor) where
  -- a record is read: the cause is that of those after it
  pub scan_read : {d : Cursor} {a : ℕ} → Numbered K.refusals → 0 ≡ first_of (record_causes K s limits c) → d ≡ cursor_after s c → i < n
      → first_of (records_causes K (n - i) s limits c) ≡ a → first_of (records_causes K (n - (i + 1)) s limits d) ≡ a
  scan_read numbers e d h j =
      rw d (sym (first_goes (record_causes K s limits c) (records_causes K (n - (i + 1)) s limits (cursor_after s c)) (record_numbered K numbers s limits c) (sym e)) ∙ sym (ap first_of (causes_more K n i s limits c h)) ∙ j)

  -- one is refused: its cause is the first
  pub scan_refused : {f a : ℕ} → (f ≡ 0 → ⊥) → f ≡ first_of (record_causes K s limits c) → i < n → first_of (records_causes K (n - i) s limits c) ≡ a → f ≡ a
  scan_refused {f} z e h j =
      sym (first_stops (record_causes K s limits c) (records_causes K (n - (i + 1)) s limits (cursor_after s c)) f (sym e) z) ∙ sym (ap first_of (causes_more K n i s limits c h)) ∙ j

  pub scan_trailing : {a : ℕ} → n ≤ i → c.at < length s → first_of (records_causes K (n - i) s limits c) ≡ a → trailing_bytes ≡ a
  unfolding records_causes first_of
  scan_trailing h l j = let z : n - i ≡ 0 = omega arith in rw (z, lt-ltb c.at (length s) l) at j

  pub scan_done : {a : ℕ} → n ≤ i → length s ≤ c.at → first_of (records_causes K (n - i) s limits c) ≡ a → 0 ≡ a
  unfolding records_causes first_of
  scan_done h l j = let z : n - i ≡ 0 = omega arith in rw (z, le-ltb c.at (length s) l) at j

-- ---- the table

module _ (n i : ℕ) (s : List ℕ) (c : Cursor) (at : ℕ) (l : List ℕ) where
  pub scan_row : {t : Turn} {d : Cursor} {next : ℕ} {l' a : List ℕ} → t ≡ turn_at s c → d ≡ cursor_after s c → i < n → next ≡ at + row_numbers → l' ≡ puts l at (row_of t)
      → puts l at (rows (turns_from (n - i) s c)) ≡ a → puts l' next (rows (turns_from (n - (i + 1)) s d)) ≡ a
  unfolding rows
  scan_row {t = t} {d = d} {next = next} e f h b p j =
      let q : turns_from (n - i) s c ≡ t ∷ turns_from (n - (i + 1)) s d = turns_more n i s c h ∙ rw (e, f) in
      rw p (puts_append (row_of t) (rows (turns_from (n - (i + 1)) s d)) l at next (omega arith) ∙ ap (λ (ts : List Turn). puts l at (rows ts)) (sym q) ∙ j)

  pub scan_table : {a : List ℕ} → n ≤ i → puts l at (rows (turns_from (n - i) s c)) ≡ a → l ≡ a
  unfolding turns_from rows
  scan_table h j = let z : n - i ≡ 0 = omega arith in rw z at j

pub ruleset scan_cases = (scan_start, scan_table_start, scan_read, scan_refused, refuses, scan_trailing, scan_done, scan_row, scan_table)
