-- The order in which a sheet of a kind is refused: each cause at its place is one of the list's, and the number given is that of the first. Assumes nothing.
use Prim.Native.Nat.{ℕ, zero, suc, ◌+◌, ◌-◌, ◌*◌, ◌<◌}
use mathlib.Core.Path.{◌≡◌, refl, sym, ◌∙◌, subst, subst₂}
use mathlib.Core.Bool.{Bool, true, false, not, true≢false}
use mathlib.Core.List.{List}
use mathlib.Core.Logic.{⊎_elim, ◌↔◌, ◌≢◌}
use native.Mathlib.Omega.{arith}
use native.Mathlib.Nat.{zero-add}
use lib.ListN.{length, take}
use borrow.Author.Tests.{ltb-true, lt-ltb, leb-true, le-leb, not-true}
use Rattle.refusal.specs.Cause.{There, first_of, FirstAmong}
use Rattle.refusal.proofs.Places.{cause_at, there_at, at_there, there_left, there_right, there_split}
use Rattle.wire.specs.Mark.{opens_with}
use Rattle.turn.specs.Turn.{most_worth, most_driver, turn_causes}
use Rattle.turn.proofs.Ranges.{outside_iff, past_iff}
use Rattle.sheet.specs.Kind.{Kind, shift_sheet, ThreeBytes}
use Rattle.sheet.specs.Record.{width_of, end_at, first_cursor, record_causes}
use Rattle.sheet.specs.Read.{header_bytes, counts_in, turn_count, count_causes, header_causes, records_causes, causes_for, sheet_causes}
use Rattle.sheet.proofs.SoundKinds.{shift_sheet_sound, mark_iff}
use Rattle.sheet.proofs.MapLaws.{bad_map_iff}
use Rattle.sheet.specs.Accepted.{cursor_of, record_map, turn_of, place_of, CauseFor, short_header, other_mark, groomer_count, slope_count, turn_count_cause, no_map, wrong_map, short_fields, slope, groomer, time, worth, driver, bytes_behind, FirstCause}
use Rattle.refusal.proofs.Order.{first_same}

other_mark_iff : {mark : List ℕ} → ThreeBytes mark → (s : List ℕ) → (not (opens_with mark s) ≡ true) ↔ (take 3 s ≢ mark)
other_mark_iff {mark} b s = (λ e m. true≢false (sym ((mark_iff b s).1 m) ∙ not-true (opens_with mark s) e), λ n. go (opens_with mark s) refl n)
  where
    go : (t : Bool) → opens_with mark s ≡ t → take 3 s ≢ mark → not t ≡ true
    go true q n = absurd (n ((mark_iff b s).0 q))
    go false q n = refl

module _ (K : Kind) (mark : ThreeBytes K.mark) (s : List ℕ) where
  -- ---- from the list to the words

  header_cause : (k r : ℕ) → (cause_at (header_causes K s) r).there ≡ true → k ≡ (cause_at (header_causes K s) r).number → CauseFor K s k r
  unfolding header_causes count_causes
  header_cause k zero e n = rw n (short_header (ltb-true (length s) header_bytes e))
  header_cause k (suc zero) e n = rw n (other_mark ((other_mark_iff mark s).0 e))
  header_cause k (suc (suc zero)) e n = rw n (groomer_count ((outside_iff (counts_in s).groomers K.most.groomers).0 e))
  header_cause k (suc (suc (suc zero))) e n = rw n (slope_count ((outside_iff (counts_in s).slopes K.most.slopes).0 e))
  header_cause k (suc (suc (suc (suc zero)))) e n = rw n (turn_count_cause (ltb-true K.most.turns (turn_count s) e))
  header_cause k (suc (suc (suc (suc (suc r))))) e n = absurd (true≢false (sym e))

  module _ (i : ℕ) (h : i < turn_count s) where
    record_cause : (k r : ℕ) → (cause_at (record_causes K s (counts_in s) (cursor_of s i)) r).there ≡ true → k ≡ (cause_at (record_causes K s (counts_in s) (cursor_of s i)) r).number → CauseFor K s k (place_of i r)
    unfolding record_causes turn_causes end_at
    record_cause k zero e n = rw n (no_map i h (leb-true (length s) (cursor_of s i).at e))
    record_cause k (suc zero) e n = rw n (wrong_map i h ((bad_map_iff K.maps s i (record_map s i)).0 e))
    record_cause k (suc (suc zero)) e n = rw n (short_fields i h (ltb-true (length s) ((cursor_of s i).at + 1 + width_of (record_map s i)) e))
    record_cause k (suc (suc (suc zero))) e n = rw n (slope i h ((outside_iff (turn_of s i).slope (counts_in s).slopes).0 e))
    record_cause k (suc (suc (suc (suc zero)))) e n = rw n (groomer i h ((outside_iff (turn_of s i).groomer (counts_in s).groomers).0 e))
    record_cause k (suc (suc (suc (suc (suc zero))))) e n = rw n (time i h ((past_iff (turn_of s i).start (turn_of s i).length).0 e))
    record_cause k (suc (suc (suc (suc (suc (suc zero)))))) e n = rw n (worth i h ((outside_iff (turn_of s i).worth most_worth).0 e))
    record_cause k (suc (suc (suc (suc (suc (suc (suc zero))))))) e n = rw n (driver i h (ltb-true most_driver (turn_of s i).driver e))
    record_cause k (suc (suc (suc (suc (suc (suc (suc (suc r)))))))) e n = absurd (true≢false (sym e))

  -- what stands after the last record
  end_cause : (k r : ℕ) → (cause_at (records_causes K 0 s (counts_in s) (cursor_of s (turn_count s))) r).there ≡ true → k ≡ (cause_at (records_causes K 0 s (counts_in s) (cursor_of s (turn_count s))) r).number
      → CauseFor K s k (place_of (turn_count s) r)
  unfolding records_causes
  end_cause k zero e n = rw n (bytes_behind (ltb-true (cursor_of s (turn_count s)).at (length s) e))
  end_cause k (suc r) e n = absurd (true≢false (sym e))

  -- the records from number i on
  records_cause : (n i : ℕ) → i + n ≡ turn_count s → (k r : ℕ) → There (records_causes K n s (counts_in s) (cursor_of s i)) k r → CauseFor K s k (place_of i r)
  unfolding records_causes cursor_of record_causes turn_causes
  records_cause zero i l k r h =
      let e : i ≡ turn_count s = omega arith in
      let t : There (records_causes K 0 s (counts_in s) (cursor_of s (turn_count s))) k r = subst (λ (j : ℕ). There (records_causes K 0 s (counts_in s) (cursor_of s j)) k r) e h in
      subst (λ (j : ℕ). CauseFor K s k (place_of j r)) (sym e) (end_cause k r (at_there t).0 (at_there t).1)
  records_cause (suc n) i l k r h = ⊎_elim left (right (records_cause n (suc i) (omega arith) k)) (there_split (record_causes K s (counts_in s) (cursor_of s i)) h)
    where
      left : There (record_causes K s (counts_in s) (cursor_of s i)) k r → CauseFor K s k (place_of i r)
      left t = record_cause i (omega arith) k r (at_there t).0 (at_there t).1

      right : ((q : ℕ) → There (records_causes K n s (counts_in s) (cursor_of s (suc i))) k q → CauseFor K s k (place_of (suc i) q)) → (q : ℕ) × (r ≡ 8 + q) × There (records_causes K n s (counts_in s) (cursor_of s (suc i))) k q
          → CauseFor K s k (place_of i r)
      right ih x = let e : place_of i r ≡ place_of (suc i) x.0 = omega (arith, x.1) in rw e (ih x.0 x.2)

  pub there_cause_for : {k r : ℕ} → There (causes_for K s) k r → CauseFor K s k r
  unfolding causes_for header_causes count_causes cursor_of
  there_cause_for {k} {r} h = ⊎_elim left right (there_split (header_causes K s) h)
    where
      left : There (header_causes K s) k r → CauseFor K s k r
      left t = header_cause k r (at_there t).0 (at_there t).1

      right : (q : ℕ) × (r ≡ 5 + q) × There (records_causes K (turn_count s) s (counts_in s) first_cursor) k q → CauseFor K s k r
      right x = let e : r ≡ place_of 0 x.0 = omega (arith, x.1) in rw e (records_cause (turn_count s) 0 (omega arith) k x.0 x.2)

  -- ---- from the words to the list

  -- a cause of the records from number d on is one of all the records
  skip : (d n : ℕ) {k r : ℕ} → There (records_causes K n s (counts_in s) (cursor_of s d)) k r → There (records_causes K (d + n) s (counts_in s) first_cursor) k (8 * d + r)
  unfolding records_causes cursor_of record_causes turn_causes
  skip zero n {k} {r} h = rw (zero-add n, zero-add r) h
  skip (suc d) n {k} {r} h =
      let t : There (records_causes K (suc n) s (counts_in s) (cursor_of s d)) k (8 + r) = there_right (record_causes K s (counts_in s) (cursor_of s d)) h in
      let a : suc d + n ≡ d + suc n = omega arith in
      let b : 8 * suc d + r ≡ 8 * d + (8 + r) = omega arith in
      subst₂ (λ (x y : ℕ). There (records_causes K x s (counts_in s) first_cursor) k y) (sym a) (sym b) (skip d (suc n) t)

  later_there : (d n : ℕ) {k r : ℕ} → d + n ≡ turn_count s → There (records_causes K n s (counts_in s) (cursor_of s d)) k r → There (causes_for K s) k (place_of d r)
  unfolding causes_for header_causes count_causes
  later_there d n {k} {r} e h = there_right (header_causes K s) (subst (λ (x : ℕ). There (records_causes K x s (counts_in s) first_cursor) k (8 * d + r)) e (skip d n h))

  header_there : (r : ℕ) → (cause_at (header_causes K s) r).there ≡ true → There (causes_for K s) (cause_at (header_causes K s) r).number r
  unfolding causes_for
  header_there r e = there_left _ (there_at (header_causes K s) r e)

  record_there : (i : ℕ) → i < turn_count s → (r : ℕ) → (cause_at (record_causes K s (counts_in s) (cursor_of s i)) r).there ≡ true → There (causes_for K s) (cause_at (record_causes K s (counts_in s) (cursor_of s i)) r).number (place_of i r)
  unfolding records_causes
  record_there i h r e = later_there i (suc (turn_count s - suc i)) (omega arith) (there_left _ (there_at (record_causes K s (counts_in s) (cursor_of s i)) r e))

  pub cause_there_for : {k r : ℕ} → CauseFor K s k r → There (causes_for K s) k r
  unfolding header_causes count_causes record_causes turn_causes end_at records_causes
  cause_there_for (short_header h) = header_there 0 (lt-ltb (length s) header_bytes h)
  cause_there_for (other_mark h) = header_there 1 ((other_mark_iff mark s).1 h)
  cause_there_for (groomer_count h) = header_there 2 ((outside_iff (counts_in s).groomers K.most.groomers).1 h)
  cause_there_for (slope_count h) = header_there 3 ((outside_iff (counts_in s).slopes K.most.slopes).1 h)
  cause_there_for (turn_count_cause h) = header_there 4 (lt-ltb K.most.turns (turn_count s) h)
  cause_there_for (no_map i l h) = record_there i l 0 (le-leb (length s) (cursor_of s i).at h)
  cause_there_for (wrong_map i l h) = record_there i l 1 ((bad_map_iff K.maps s i (record_map s i)).1 h)
  cause_there_for (short_fields i l h) = record_there i l 2 (lt-ltb (length s) ((cursor_of s i).at + 1 + width_of (record_map s i)) h)
  cause_there_for (slope i l h) = record_there i l 3 ((outside_iff (turn_of s i).slope (counts_in s).slopes).1 h)
  cause_there_for (groomer i l h) = record_there i l 4 ((outside_iff (turn_of s i).groomer (counts_in s).groomers).1 h)
  cause_there_for (time i l h) = record_there i l 5 ((past_iff (turn_of s i).start (turn_of s i).length).1 h)
  cause_there_for (worth i l h) = record_there i l 6 ((outside_iff (turn_of s i).worth most_worth).1 h)
  cause_there_for (driver i l h) = record_there i l 7 (lt-ltb most_driver (turn_of s i).driver h)
  cause_there_for (bytes_behind h) = later_there (turn_count s) 0 (omega arith) (there_at (records_causes K 0 s (counts_in s) (cursor_of s (turn_count s))) 0 (lt-ltb (cursor_of s (turn_count s)).at (length s) h))

  pub causes_iff_for : (k r : ℕ) → CauseFor K s k r ↔ There (causes_for K s) k r
  causes_iff_for k r = (cause_there_for, there_cause_for)

-- ---- the number that is given

-- a sheet is refused with k exactly where its first cause has number k
pub refused_iff_for : (K : Kind) → ThreeBytes K.mark → (s : List ℕ) (k : ℕ) → (k ≡ 0 → ⊥) → (first_of (causes_for K s) ≡ k) ↔ FirstAmong (CauseFor K s) k
refused_iff_for K mark s k z = first_same (causes_for K s) (CauseFor K s) (causes_iff_for K mark s) k z

-- ---- a shift's sheet

pub refused_iff : (s : List ℕ) (k : ℕ) → (k ≡ 0 → ⊥) → (first_of (sheet_causes s) ≡ k) ↔ FirstCause s k
unfolding sheet_causes
refused_iff = refused_iff_for shift_sheet shift_sheet_sound.mark
