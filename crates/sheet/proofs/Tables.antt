-- The turns of a sheet, by number, and the table that has their rows. Assumes nothing.
use Prim.Native.Nat.{ℕ, zero, suc, ◌+◌, ◌*◌, ◌<◌}
use mathlib.Core.Path.{◌≡◌, ◌∙◌, ap}
use mathlib.Core.List.{List}
use native.Mathlib.Omega.{arith}
use native.Mathlib.Nat.{add-zero, zero-add}
use lib.ListN.{length, get_or}
use Rattle.turn.specs.declared.Turn.{Turn}
use Rattle.turn.specs.Turn.{row_numbers, turn_in}
use Rattle.turn.proofs.Rows.{rows_length, turn_of_rows}
use Rattle.sheet.specs.Record.{first_cursor}
use Rattle.sheet.specs.Read.{turn_count, turns_from, turns_of, table_of}
use Rattle.sheet.specs.Accepted.{cursor_of, turn_of}
use Rattle.sheet.proofs.Readings.{turns_from_length}

-- ---- the turns; past the end a list reads as any turn that is named

-- the turns from record i on, of which number j is meant
turn_at : (k : ℕ) (s : List ℕ) (i : ℕ) (d : Turn) (j : ℕ) → j < k → get_or (turns_from k s (cursor_of s i)) j d ≡ turn_of s (i + j)
unfolding turns_from cursor_of
turn_at zero s i d j h = absurd (omega arith)
turn_at (suc k) s i d zero h = rw (add-zero i)
turn_at (suc k) s i d (suc j) h = let e : i + suc j ≡ suc i + j = omega arith in rw e (turn_at k s (suc i) d j (omega arith))

module _ (s : List ℕ) where
  pub turns_length : length (turns_of s) ≡ turn_count s
  unfolding turns_of
  turns_length = turns_from_length (turn_count s) s first_cursor

  pub turns_at : (d : Turn) (i : ℕ) → i < turn_count s → get_or (turns_of s) i d ≡ turn_of s i
  unfolding turns_of cursor_of
  turns_at d i h = turn_at (turn_count s) s 0 d i h ∙ rw (zero-add i)

  -- ---- the table

  pub table_length : length (table_of s) ≡ row_numbers * turn_count s
  unfolding table_of
  table_length = rows_length (turns_of s) ∙ ap (λ (n : ℕ). row_numbers * n) turns_length

  pub table_row : (i : ℕ) → i < turn_count s → turn_in (table_of s) i ≡ turn_of s i
  unfolding table_of
  table_row i h = turn_of_rows (turns_of s) i (turn_of s i) (omega (arith, turns_length)) ∙ turns_at (turn_of s i) i h

-- ---- of an accepted sheet they are in range
