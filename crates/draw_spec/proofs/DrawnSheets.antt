-- A drawn sheet is the one that the writer makes of the drawn table, is accepted, and is read back as the drawn turns in the written order. Assumes nothing.
use Prim.Native.Nat.{ℕ, ◌*◌, ◌%◌, ◌≤◌}
use mathlib.Core.Path.{◌≡◌, refl, sym, ◌∙◌, ap}
use mathlib.Core.Bool.{true}
use mathlib.Core.List.{List, [], ◌∷◌, ◌++◌}
use mathlib.Core.Logic.{◌↔◌}
use native.Mathlib.Omega.{arith}
use native.Mathlib.Decide.{ℕ_discrete}
use lib.Dec.{ltb}
use lib.ListN.{length}
use borrow.Author.Tests.{eq-eqb, le-ltb}
use Rattle.refusal.specs.Number.{bad_seed, buffer_too_small}
use Rattle.refusal.specs.Cause.{◌when◌, first_of}
use Rattle.refusal.specs.Written.{Written, at_front, written_part}
use Rattle.refusal.proofs.Order.{numbered, first_stops, clear_cons, first_append}
use Rattle.refusal.proofs.Written.{written_number, written_bytes, written_same}
use Rattle.turn.specs.declared.Counts.{Counts}
use Rattle.turn.specs.Turn.{row_numbers, rows, table_rows, outside_range}
use Rattle.turn.proofs.Rows.{rows_length, turns_rows}
use Rattle.turn.proofs.Ranges.{inside_iff}
use Rattle.sheet.specs.Kind.{shift_sheet}
use Rattle.sheet.specs.Read.{count_causes, read_of}
use Rattle.sheet.specs.Accepted.{Legal, SheetFor, Accepted}
use Rattle.sheet.proofs.SoundKinds.{shift_sheet_sound}
use Rattle.sheet.proofs.Headers.{counts_numbered, counts_legal, legal_counts}
use Rattle.write_spec.specs.Order.{sorted_turns}
use Rattle.write_spec.specs.Write.{written_turns, table_causes, write_causes, write_of}
use Rattle.write_spec.proofs.Orders.{sorted_length}
use Rattle.write_spec.proofs.Writable.{table_numbered, all_fine}
use Rattle.write_spec.proofs.RoundTrip.{writable_table, written_sheet, reading}
use Rattle.write_spec.proofs.Promised.{write_promised}
use Rattle.draw_spec.specs.Draw.{most_draw, drawn_turns, drawn_table, Drawable}
use Rattle.draw_spec.specs.DrawnSheet.{drawn_sheet, seed_causes, draw_causes, draw_of}
use Rattle.draw_spec.specs.Promises.{DrawPromised}
use Rattle.draw_spec.proofs.Draws.{drawn_all, drawn_length_lem, drawn_fields}
use Rattle.refusal.specs.Outcome.{beside}
use Rattle.refusal.proofs.Outcome.{enough_iff}

module _ (seed : ℕ) (counts : Counts) (turns : ℕ) where
  -- ---- the drawn table

  pub drawn_numbers : length (drawn_table turns counts seed) ≡ row_numbers * turns
  drawn_numbers = rows_length (drawn_turns turns counts seed) ∙ ap (λ (m : ℕ). row_numbers * m) (drawn_length_lem turns counts seed)

  drawn_rows : table_rows (drawn_table turns counts seed) ≡ turns
  drawn_rows = omega (arith, drawn_numbers)

  drawn_whole : length (drawn_table turns counts seed) % row_numbers ≡ 0
  drawn_whole = omega (arith, drawn_numbers)

  -- the turns to be written for it are the drawn ones
  pub drawn_written : written_turns (drawn_table turns counts seed) ≡ sorted_turns (drawn_turns turns counts seed)
  drawn_written = ap sorted_turns (turns_rows (drawn_turns turns counts seed))

  drawn_stops : (first_of (count_causes shift_sheet counts turns) ≡ 0 → ⊥) → first_of (table_causes counts (drawn_table turns counts seed)) ≡ first_of (count_causes shift_sheet counts turns)
  unfolding table_causes first_of
  drawn_stops n = rw (eq-eqb (length (drawn_table turns counts seed) % row_numbers) 0 drawn_whole, drawn_rows) (first_stops (count_causes shift_sheet counts turns) _ _ refl n)

  -- nothing can be wrong with it but the counts
  pub drawn_causes : first_of (table_causes counts (drawn_table turns counts seed)) ≡ first_of (count_causes shift_sheet counts turns)
  drawn_causes = go (ℕ_discrete (first_of (count_causes shift_sheet counts turns)) 0)
    where
      fine : first_of (count_causes shift_sheet counts turns) ≡ 0 → first_of (table_causes counts (drawn_table turns counts seed)) ≡ 0
      fine z =
          let l = counts_legal shift_sheet counts turns shift_sheet_sound.numbers z in
          let all = all_fine counts (drawn_all counts l.groomers_from_lem l.slopes_from turns seed) in
          writable_table counts (drawn_table turns counts seed) (record { whole = drawn_whole; legal = rw drawn_rows l; fine = rw (turns_rows (drawn_turns turns counts seed)) all })

      go : Dec (first_of (count_causes shift_sheet counts turns) ≡ 0) → first_of (table_causes counts (drawn_table turns counts seed)) ≡ first_of (count_causes shift_sheet counts turns)
      go (yes z) = fine z ∙ sym z
      go (no n) = drawn_stops n

  -- ---- the sheet

  seed_clear : Drawable seed → first_of (seed_causes seed counts turns) ≡ first_of (count_causes shift_sheet counts turns)
  unfolding seed_causes first_of
  seed_clear d = rw ((inside_iff seed most_draw).1 (d.from, d.to))

  pub seed_numbered : numbered (seed_causes seed counts turns) ≡ true
  unfolding seed_causes
  seed_numbered = counts_numbered shift_sheet counts turns shift_sheet_sound.numbers

  -- with a seed that can be drawn, drawing a sheet is writing the drawn table, whatever the counts and the lent bytes
  pub drawn_as_written : (lent : List ℕ) → Drawable seed → draw_of seed counts turns lent ≡ write_of counts (drawn_table turns counts seed) lent
  unfolding draw_of draw_causes write_of write_causes
  drawn_as_written lent d =
      let table = drawn_table turns counts seed in
      let small = buffer_too_small when ltb (length lent) (length (drawn_sheet seed counts turns)) ∷ [] in
      let e = first_append (seed_causes seed counts turns) (table_causes counts table) small seed_numbered (table_numbered counts table) (seed_clear d ∙ sym drawn_causes) in
      rw drawn_written (written_same (seed_causes seed counts turns ++ small) (drawn_sheet seed counts turns) lent (table_causes counts table ++ small) e)

  -- nothing is wrong with a seed and counts just if the seed can be drawn and a header may name the counts
  pub seed_iff : (first_of (seed_causes seed counts turns) ≡ 0) ↔ (Drawable seed × Legal shift_sheet counts turns)
  unfolding seed_causes
  seed_iff = (to, λ h. seed_clear h.0 ∙ legal_counts shift_sheet counts turns h.1)
    where
      to : first_of (bad_seed when outside_range seed most_draw ∷ count_causes shift_sheet counts turns) ≡ 0 → Drawable seed × Legal shift_sheet counts turns
      to e =
          let both = clear_cons (bad_seed when outside_range seed most_draw) (count_causes shift_sheet counts turns) (omega arith) e in
          let s = (inside_iff seed most_draw).0 both.0 in
          (record { from = s.0; to = s.1 }, counts_legal shift_sheet counts turns shift_sheet_sound.numbers both.1)

  -- ---- reading it

  -- it is a sheet of these counts and of the drawn turns in the written order, so the reader accepts it
  pub drawn_sheet_lem : Legal shift_sheet counts turns → SheetFor shift_sheet (drawn_sheet seed counts turns) counts (sorted_turns (drawn_turns turns counts seed))
  drawn_sheet_lem l = rw drawn_written at (written_sheet counts (drawn_table turns counts seed) (drawn_causes ∙ legal_counts shift_sheet counts turns l))

  pub drawn_accepted : Legal shift_sheet counts turns → Accepted (drawn_sheet seed counts turns)
  drawn_accepted l = record { counts = counts; turns = sorted_turns (drawn_turns turns counts seed); sheet = drawn_sheet_lem l }

  -- the number given is that of the first cause
  pub draw_number_lem : (lent : List ℕ) → (draw_of seed counts turns lent).answer.refusal ≡ first_of (draw_causes seed counts turns (length lent))
  unfolding draw_of
  draw_number_lem lent = written_number (draw_causes seed counts turns (length lent)) (drawn_sheet seed counts turns) lent

  -- what was written where nothing was refused is that sheet, whatever the lent bytes were: equal seeds and counts give equal bytes
  pub drawn_bytes : (lent : List ℕ) → (draw_of seed counts turns lent).answer.refusal ≡ 0 → written_part (draw_of seed counts turns lent) ≡ drawn_sheet seed counts turns
  unfolding draw_of
  drawn_bytes lent = written_bytes (draw_causes seed counts turns (length lent)) (drawn_sheet seed counts turns) lent

  -- and read into any lent table long enough it gives these counts, the drawn turns in the written order, and the rest as it was
  pub draw_then_read : (lent table : List ℕ) → (draw_of seed counts turns lent).answer.refusal ≡ 0 → row_numbers * turns ≤ length table
      → read_of (written_part (draw_of seed counts turns lent)) table
      ≡ beside (record { refusal = 0; groomers = counts.groomers; slopes = counts.slopes; turns = turns }) (at_front (rows (sorted_turns (drawn_turns turns counts seed))) table)
  unfolding draw_causes
  draw_then_read lent table e h =
      let z = sym (draw_number_lem lent) ∙ e in
      let l = (seed_iff.0 ((enough_iff (seed_causes seed counts turns) (length lent) (length (drawn_sheet seed counts turns)) seed_numbered).0 z).0).1 in
      let n : length (sorted_turns (drawn_turns turns counts seed)) ≡ turns = sorted_length (drawn_turns turns counts seed) ∙ drawn_length_lem turns counts seed in
      rw (drawn_bytes lent e) (reading (drawn_sheet_lem l) table ∙ rw (n, le-ltb (length table) (row_numbers * turns) h))

  -- ---- what is promised where nothing is refused

  pub draw_promised : (lent : List ℕ) → (draw_of seed counts turns lent).answer.refusal ≡ 0 → DrawPromised seed counts turns lent
  unfolding draw_causes
  draw_promised lent e =
      let z = sym (draw_number_lem lent) ∙ e in
      let d = (seed_iff.0 ((enough_iff (seed_causes seed counts turns) (length lent) (length (drawn_sheet seed counts turns)) seed_numbered).0 z).0).0 in
      let w = drawn_as_written lent d in
      record {
        drawn = drawn_turns turns counts seed;
        many = drawn_length_lem turns counts seed;
        fields = λ k t h. drawn_fields turns counts seed k t h;
        as_written = w;
        promised = write_promised counts (drawn_table turns counts seed) lent (sym (ap (λ (x : Written). x.answer.refusal) w) ∙ e);
      }
