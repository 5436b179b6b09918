-- The order in which writing is refused: each cause at its place is one of the list's, and the number given is that of the first. Assumes nothing.
use Prim.Native.Nat.{ℕ, zero, suc, ◌+◌, ◌-◌, ◌*◌, ◌%◌, ◌<◌}
use mathlib.Core.Path.{◌≡◌, refl, sym, ◌∙◌, subst}
use mathlib.Core.Bool.{true, not, true≢false}
use mathlib.Core.List.{List, ◌∷◌}
use mathlib.Core.Logic.{⊎_elim, ◌↔◌, ◌≢◌}
use native.Mathlib.Omega.{arith}
use native.Mathlib.Nat.{zero-add, add-zero}
use lib.Dec.{eqb}
use lib.ListN.{length}
use borrow.Author.Tests.{ltb-true, lt-ltb, eqb-false, ne_eqb, not-true}
use Rattle.refusal.specs.Number.{partial_turn}
use Rattle.refusal.specs.Cause.{Cause, ◌when◌, There}
use Rattle.refusal.proofs.Places.{cause_at, there_at, at_there, there_left, there_right, there_split}
use Rattle.turn.specs.declared.Counts.{Counts}
use Rattle.turn.specs.Turn.{row_numbers, turn_in, turns_of_table, table_rows, table_turns, most_worth, most_driver, turn_causes}
use Rattle.turn.proofs.Ranges.{outside_iff, past_iff}
use Rattle.sheet.specs.Kind.{most_groomers, most_slopes, most_turns, shift_sheet}
use Rattle.sheet.specs.Read.{count_causes}
use Rattle.write_spec.specs.Write.{turns_causes, table_causes, write_causes, write_of}
use Rattle.write_spec.specs.WriteCause.{row_place, WriteCause, partial_turn_cause, groomer_count, slope_count, turn_count_cause, slope, groomer, time, worth, driver, FirstWriteCause, TableCause}
use Rattle.write_spec.proofs.Writable.{table_numbered}
use Rattle.write_spec.proofs.RoundTrip.{write_number}
use Rattle.refusal.proofs.Words.{Within, Tells, tells_none, says_tells, says_within, room_tells}
use Rattle.refusal.specs.Written.{kept}
use Rattle.refusal.proofs.Written.{written_iff, written_not}

partial_iff : (n : ℕ) → (not (eqb n 0) ≡ true) ↔ (n ≢ 0)
partial_iff n = (λ e. eqb-false n 0 (not-true (eqb n 0) e), λ h. rw (ne_eqb n 0 h))

module _ (counts : Counts) (table : List ℕ) where
  -- the length and the counts
  front : List Cause
  front = partial_turn when not (eqb (length table % row_numbers) 0) ∷ count_causes shift_sheet counts (table_rows table)

  -- ---- from the list to the words

  front_cause : (k r : ℕ) → (cause_at front r).there ≡ true → k ≡ (cause_at front r).number → TableCause counts table k r
  unfolding front count_causes shift_sheet
  front_cause k zero e n = rw n (partial_turn_cause ((partial_iff (length table % row_numbers)).0 e))
  front_cause k (suc zero) e n = rw n (groomer_count ((outside_iff counts.groomers most_groomers).0 e))
  front_cause k (suc (suc zero)) e n = rw n (slope_count ((outside_iff counts.slopes most_slopes).0 e))
  front_cause k (suc (suc (suc zero))) e n = rw n (turn_count_cause (ltb-true most_turns (table_rows table) e))
  front_cause k (suc (suc (suc (suc r)))) e n = absurd (true≢false (sym e))

  row_cause : (i : ℕ) → i < table_rows table → (k r : ℕ) → (cause_at (turn_causes shift_sheet.refusals counts (turn_in table i)) r).there ≡ true → k ≡ (cause_at (turn_causes shift_sheet.refusals counts (turn_in table i)) r).number → TableCause counts table k (row_place i r)
  unfolding turn_causes shift_sheet
  row_cause i h k zero e n = rw n (slope i h ((outside_iff (turn_in table i).slope counts.slopes).0 e))
  row_cause i h k (suc zero) e n = rw n (groomer i h ((outside_iff (turn_in table i).groomer counts.groomers).0 e))
  row_cause i h k (suc (suc zero)) e n = rw n (time i h ((past_iff (turn_in table i).start (turn_in table i).length).0 e))
  row_cause i h k (suc (suc (suc zero))) e n = rw n (worth i h ((outside_iff (turn_in table i).worth most_worth).0 e))
  row_cause i h k (suc (suc (suc (suc zero)))) e n = rw n (driver i h (ltb-true most_driver (turn_in table i).driver e))
  row_cause i h k (suc (suc (suc (suc (suc r))))) e n = absurd (true≢false (sym e))

  -- the turns from number i on
  rows_cause : (n i : ℕ) → i + n ≡ table_rows table → (k r : ℕ) → There (turns_causes shift_sheet.refusals counts (turns_of_table n table i)) k r → TableCause counts table k (row_place i r)
  unfolding turns_causes turns_of_table turn_causes
  rows_cause zero i l k r h = absurd (true≢false (sym (at_there h).0))
  rows_cause (suc n) i l k r h = ⊎_elim left (right (rows_cause n (i + 1) (omega arith) k)) (there_split (turn_causes shift_sheet.refusals counts (turn_in table i)) h)
    where
      left : There (turn_causes shift_sheet.refusals counts (turn_in table i)) k r → TableCause counts table k (row_place i r)
      left t = row_cause i (omega arith) k r (at_there t).0 (at_there t).1

      right : ((q : ℕ) → There (turns_causes shift_sheet.refusals counts (turns_of_table n table (i + 1))) k q → TableCause counts table k (row_place (i + 1) q)) → (q : ℕ) × (r ≡ 5 + q) × There (turns_causes shift_sheet.refusals counts (turns_of_table n table (i + 1))) k q
          → TableCause counts table k (row_place i r)
      right ih x = let e : row_place i r ≡ row_place (i + 1) x.0 = omega (arith, x.1) in rw e (ih x.0 x.2)

  table_cause : {k r : ℕ} → There (table_causes counts table) k r → TableCause counts table k r
  unfolding table_causes front count_causes
  table_cause {k} {r} h = ⊎_elim left right (there_split front h)
    where
      left : There front k r → TableCause counts table k r
      left t = front_cause k r (at_there t).0 (at_there t).1

      right : (q : ℕ) × (r ≡ 4 + q) × There (turns_causes shift_sheet.refusals counts (table_turns table)) k q → TableCause counts table k r
      right x = let e : r ≡ row_place 0 x.0 = omega (arith, x.1) in rw e (rows_cause (table_rows table) 0 (omega arith) k x.0 x.2)

  -- the place after the table's causes
  rows_places : (n i : ℕ) → length (turns_causes shift_sheet.refusals counts (turns_of_table n table i)) ≡ 5 * n
  unfolding turns_causes turns_of_table turn_causes
  rows_places zero i = refl
  rows_places (suc n) i = omega (arith, rows_places n (i + 1))

  table_places_lem : length (table_causes counts table) ≡ row_place (table_rows table) 0
  unfolding table_causes count_causes
  table_places_lem = omega (arith, rows_places (table_rows table) 0)

  -- ---- from the words to the list

  front_there : (r : ℕ) → (cause_at front r).there ≡ true → There (table_causes counts table) (cause_at front r).number r
  unfolding table_causes front
  front_there r e = there_left {a = front} _ (there_at front r e)

  -- a cause of the turns from number i + d on is one of those from number i on
  skip : (d n i : ℕ) {k r : ℕ} → There (turns_causes shift_sheet.refusals counts (turns_of_table n table (i + d))) k r → There (turns_causes shift_sheet.refusals counts (turns_of_table (d + n) table i)) k (5 * d + r)
  unfolding turns_causes turns_of_table turn_causes
  skip zero n i {k} {r} h = rw (zero-add n, zero-add r, ← add-zero i) h
  skip (suc d) n i {k} {r} h =
      let e : i + suc d ≡ i + 1 + d = omega arith in
      let t = skip d n (i + 1) (subst (λ (j : ℕ). There (turns_causes shift_sheet.refusals counts (turns_of_table n table j)) k r) e h) in
      let a : suc d + n ≡ suc (d + n) = omega arith in
      let b : 5 * suc d + r ≡ 5 + (5 * d + r) = omega arith in
      rw (a, b) (there_right (turn_causes shift_sheet.refusals counts (turn_in table i)) t)

  row_there : (i : ℕ) → i < table_rows table → (r : ℕ) → (cause_at (turn_causes shift_sheet.refusals counts (turn_in table i)) r).there ≡ true
      → There (table_causes counts table) (cause_at (turn_causes shift_sheet.refusals counts (turn_in table i)) r).number (row_place i r)
  unfolding table_causes front count_causes turns_causes turns_of_table
  row_there i h r e =
      let k = (cause_at (turn_causes shift_sheet.refusals counts (turn_in table i)) r).number in
      let t : There (turns_causes shift_sheet.refusals counts (turns_of_table (suc (table_rows table - suc i)) table i)) k r = there_left _ (there_at (turn_causes shift_sheet.refusals counts (turn_in table i)) r e) in
      let n : i + suc (table_rows table - suc i) ≡ table_rows table = omega arith in
      let s : There (turns_causes shift_sheet.refusals counts (turns_of_table (i + suc (table_rows table - suc i)) table 0)) k (5 * i + r) = skip i (suc (table_rows table - suc i)) 0 (rw (zero-add i) t) in
      there_right front (subst (λ (m : ℕ). There (turns_causes shift_sheet.refusals counts (turns_of_table m table 0)) k (5 * i + r)) n s)

  cause_there : {k r : ℕ} → TableCause counts table k r → There (table_causes counts table) k r
  unfolding front count_causes turn_causes shift_sheet
  cause_there (partial_turn_cause h) = front_there 0 ((partial_iff (length table % row_numbers)).1 h)
  cause_there (groomer_count h) = front_there 1 ((outside_iff counts.groomers most_groomers).1 h)
  cause_there (slope_count h) = front_there 2 ((outside_iff counts.slopes most_slopes).1 h)
  cause_there (turn_count_cause h) = front_there 3 (lt-ltb most_turns (table_rows table) h)
  cause_there (slope i l h) = row_there i l 0 ((outside_iff (turn_in table i).slope counts.slopes).1 h)
  cause_there (groomer i l h) = row_there i l 1 ((outside_iff (turn_in table i).groomer counts.groomers).1 h)
  cause_there (time i l h) = row_there i l 2 ((past_iff (turn_in table i).start (turn_in table i).length).1 h)
  cause_there (worth i l h) = row_there i l 3 ((outside_iff (turn_in table i).worth most_worth).1 h)
  cause_there (driver i l h) = row_there i l 4 (lt-ltb most_driver (turn_in table i).driver h)

  table_iff : (k r : ℕ) → TableCause counts table k r ↔ There (table_causes counts table) k r
  table_iff k r = (cause_there, table_cause)

  table_within : Within (TableCause counts table) (row_place (table_rows table) 0)
  table_within k r c = omega (arith, says_within (TableCause counts table) (table_causes counts table) table_iff k r c, table_places_lem)

  -- the words tell what the list gives
  write_tells : (places : ℕ) → Tells (WriteCause counts table places) (write_causes counts table places)
  unfolding write_causes
  write_tells places =
      let numbers = table_numbered counts table in
      room_tells (row_place (table_rows table) 0) table_within (table_causes counts table) numbers (says_tells (TableCause counts table) (table_causes counts table) table_iff numbers) _ places

-- the writer gives k exactly where the first cause has number k
pub write_refused_iff : (counts : Counts) (table out : List ℕ) (k : ℕ) → (k ≡ 0 → ⊥) → ((write_of counts table out).answer.refusal ≡ k) ↔ FirstWriteCause counts table (length out) k
unfolding write_of
write_refused_iff counts table out = written_iff (write_causes counts table (length out)) _ out (write_tells counts table (length out))

-- and 0 exactly where no cause is there
pub write_accepted_iff : (counts : Counts) (table out : List ℕ) → ((write_of counts table out).answer.refusal ≡ 0) ↔ ((k r : ℕ) → WriteCause counts table (length out) k r → ⊥)
write_accepted_iff counts table out =
    let none = tells_none (write_tells counts table (length out)) in
    (λ e. none.0 (sym (write_number counts table out) ∙ e), λ n. write_number counts table out ∙ none.1 n)

-- a refusal leaves the lent bytes as they were, and says that none is written
pub write_unchanged : (counts : Counts) (table out : List ℕ) → ((write_of counts table out).answer.refusal ≡ 0 → ⊥) → write_of counts table out ≡ kept (write_of counts table out).answer.refusal out
unfolding write_of
write_unchanged counts table out = written_not (write_causes counts table (length out)) _ out
