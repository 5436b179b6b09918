-- The order in which each entry refuses: each cause at its place is one of the list's, and the number given is that of the first. Assumes nothing.
use Prim.Native.Nat.{ℕ, zero, suc, ◌+◌, ◌-◌, ◌*◌, ◌<◌, ◌≤◌}
use mathlib.Core.Path.{◌≡◌, refl, sym, ◌∙◌, ap, subst, subst₂}
use mathlib.Core.Bool.{Bool, true, false, true≢false}
use mathlib.Core.List.{List, [], ◌∷◌, ◌++◌}
use mathlib.Core.Logic.{⊎_elim, ◌↔◌}
use native.Mathlib.Omega.{arith}
use native.Mathlib.Nat.{zero-add, add-zero}
use lib.Dec.{ltb}
use lib.ListN.{length, get_or, length-append}
use borrow.Author.Tests.{ltb-true, lt-ltb}
use Rattle.refusal.specs.Number.{truncated, bad_map, trailing_bytes}
use Rattle.refusal.specs.Cause.{Cause, ◌when◌, There, here, later, first_of}
use Rattle.refusal.specs.Written.{kept}
use Rattle.refusal.proofs.Written.{written_number, written_not, written_iff}
use Rattle.refusal.proofs.Places.{cause_at, there_at, at_there, there_left, there_right, there_split}
use Rattle.wire.specs.Number.{Bytes}
use Rattle.turn.specs.Turn.{most_worth, most_driver, turn_causes}
use Rattle.turn.proofs.Ranges.{outside_iff, past_iff}
use Rattle.sheet.specs.declared.kind.Maps.{Maps}
use Rattle.sheet.specs.Kind.{shift_sheet}
use Rattle.sheet.specs.Record.{bad_map_for, cursor_after, first_cursor}
use Rattle.sheet.specs.Read.{counts_in, count_causes, header_causes, causes_for}
use Rattle.sheet.specs.Accepted.{CauseFor, WrongMap, cursor_of, Accepted}
use Rattle.sheet.proofs.MapLaws.{bad_map_iff}
use Rattle.sheet.proofs.Accepting.{lent_accepted_iff}
use Rattle.sheet.proofs.Causes.{cause_there_for, there_cause_for}
use Rattle.sheet.proofs.ReadCauses.{lent_tell}
use Rattle.write_spec.specs.Write.{turns_causes}
use Rattle.archive_spec.specs.Column.{Columns, columns_in, turn_across, turns_across}
use Rattle.archive_spec.specs.Kept.{archive, kept_of, kept_maps, columns_at, kept_end, kept_turns, restored_of}
use Rattle.archive_spec.specs.Archive.{keep_causes, keep_of, maps_causes, form_causes, kept_causes, restore_causes, restore_of}
use Rattle.archive_spec.specs.AcceptedKept.{AcceptedKept, map_count, kept_map, kept_turn, value_place, KeptCause, of_header, few_maps, wrong_map, too_short, too_long, slope, groomer, time, worth, driver, FirstKeepCause, FirstRestoreCause}
use Rattle.archive_spec.proofs.Accepting.{archive_sound, kept_numbered, accepted_kept_iff}
use Rattle.refusal.proofs.Outcome.{enough_iff}
use Rattle.refusal.proofs.Words.{Within, Tells, tells_none, says_tells, says_within, room_tells}

there_below : {cs : List Cause} {k r : ℕ} → There cs k r → r < length cs
there_below (here h) = omega arith
there_below (later h) = omega (arith, there_below h)

-- ---- the maps

-- whether map r of some is the first of all, if the one before them is not there
abbrev first_at : Bool → ℕ → Bool
first_at b zero = b
first_at b (suc r) = false

later_not : (r : ℕ) → first_at false r ≡ false
later_not zero = refl
later_not (suc r) = refl

map_at : (maps : Maps) (b : Bool) (ms : List ℕ) (r : ℕ) → (cause_at (maps_causes maps b ms) r).there ≡ true → (r < length ms) × ((cause_at (maps_causes maps b ms) r).number ≡ bad_map) × (bad_map_for maps (first_at b r) (get_or ms r 0) ≡ true)
unfolding maps_causes
map_at maps b [] r e = absurd (true≢false (sym e))
map_at maps b (m ∷ ms) zero e = (omega arith, refl, e)
map_at maps b (m ∷ ms) (suc r) e = let i = map_at maps false ms r e in (omega (arith, i.0), i.1, rw (later_not r) at i.2)

at_map : (maps : Maps) (b : Bool) (ms : List ℕ) (r : ℕ) → r < length ms → bad_map_for maps (first_at b r) (get_or ms r 0) ≡ true → There (maps_causes maps b ms) bad_map r
unfolding maps_causes
at_map maps b [] r h e = absurd (omega arith)
at_map maps b (m ∷ ms) zero h e = here e
at_map maps b (m ∷ ms) (suc r) h e = later (at_map maps false ms r (omega arith) (rw (later_not r) e))

wrong_iff : (maps : Maps) (i m : ℕ) → (bad_map_for maps (first_at true i) m ≡ true) ↔ WrongMap maps i m
unfolding cursor_of first_cursor cursor_after
wrong_iff maps zero m = bad_map_iff maps [] zero m
wrong_iff maps (suc i) m = bad_map_iff maps [] (suc i) m

maps_places : (maps : Maps) (b : Bool) (ms : List ℕ) → length (maps_causes maps b ms) ≡ length ms
unfolding maps_causes
maps_places maps b [] = refl
maps_places maps b (m ∷ ms) = ap suc (maps_places maps false ms)

module _ (k : List ℕ) where
  -- the values that the causes speak of
  across : Columns
  across = columns_in (kept_maps k) k (columns_at k)

  -- ---- from the list to the words

  header_cause : {j r : ℕ} → There (header_causes archive k) j r → KeptCause k j r
  unfolding header_causes count_causes causes_for
  header_cause t = of_header (there_below t) (there_cause_for archive archive_sound.mark k (there_left _ t))

  turn_cause : (i : ℕ) → i < map_count k → (j r : ℕ) → (cause_at (turn_causes archive.refusals (counts_in k) (kept_turn k i)) r).there ≡ true → j ≡ (cause_at (turn_causes archive.refusals (counts_in k) (kept_turn k i)) r).number → KeptCause k j (value_place k i r)
  unfolding turn_causes archive shift_sheet
  turn_cause i h j zero e n = rw n (slope i h ((outside_iff (kept_turn k i).slope (counts_in k).slopes).0 e))
  turn_cause i h j (suc zero) e n = rw n (groomer i h ((outside_iff (kept_turn k i).groomer (counts_in k).groomers).0 e))
  turn_cause i h j (suc (suc zero)) e n = rw n (time i h ((past_iff (kept_turn k i).start (kept_turn k i).length).0 e))
  turn_cause i h j (suc (suc (suc zero))) e n = rw n (worth i h ((outside_iff (kept_turn k i).worth most_worth).0 e))
  turn_cause i h j (suc (suc (suc (suc zero)))) e n = rw n (driver i h (ltb-true most_driver (kept_turn k i).driver e))
  turn_cause i h j (suc (suc (suc (suc (suc r))))) e n = absurd (true≢false (sym e))

  turns_cause : (n i : ℕ) → i + n ≡ map_count k → (j r : ℕ) → There (turns_causes archive.refusals (counts_in k) (turns_across n across i)) j r → KeptCause k j (value_place k i r)
  unfolding turns_causes turns_across turn_causes across
  turns_cause zero i l j r h = absurd (true≢false (sym (at_there h).0))
  turns_cause (suc n) i l j r h = ⊎_elim left (right (turns_cause n (i + 1) (omega arith) j)) (there_split (turn_causes archive.refusals (counts_in k) (kept_turn k i)) h)
    where
      left : There (turn_causes archive.refusals (counts_in k) (kept_turn k i)) j r → KeptCause k j (value_place k i r)
      left t = turn_cause i (omega arith) j r (at_there t).0 (at_there t).1

      right : ((q : ℕ) → There (turns_causes archive.refusals (counts_in k) (turns_across n across (i + 1))) j q → KeptCause k j (value_place k (i + 1) q)) → (q : ℕ) × (r ≡ 5 + q) × There (turns_causes archive.refusals (counts_in k) (turns_across n across (i + 1))) j q
          → KeptCause k j (value_place k i r)
      right ih x = let e : value_place k i r ≡ value_place k (i + 1) x.0 = omega (arith, x.1) in rw e (ih x.0 x.2)

  -- the end of the columns
  ends : List Cause
  ends = truncated when ltb (length k) (kept_end k) ∷ trailing_bytes when ltb (kept_end k) (length k) ∷ []

  end_cause : (j r : ℕ) → (cause_at ends r).there ≡ true → j ≡ (cause_at ends r).number → KeptCause k j (6 + map_count k + r)
  unfolding ends
  end_cause j zero e n = let p : 6 + map_count k + 0 ≡ 6 + map_count k = omega arith in rw (p, n) (too_short (ltb-true (length k) (kept_end k) e))
  end_cause j (suc zero) e n = let p : 6 + map_count k + 1 ≡ 7 + map_count k = omega arith in rw (p, n) (too_long (ltb-true (kept_end k) (length k) e))
  end_cause j (suc (suc r)) e n = absurd (true≢false (sym e))

  map_cause : (j r : ℕ) → There (maps_causes archive.maps true (kept_maps k)) j r → KeptCause k j (6 + r)
  unfolding archive
  map_cause j r t =
      let a = at_there t in
      let m = map_at shift_sheet.maps true (kept_maps k) r a.0 in
      rw (a.1 ∙ m.1) (wrong_map r m.0 ((wrong_iff shift_sheet.maps r (kept_map k r)).0 m.2))

  -- after the number of maps
  inner : List Cause
  inner = maps_causes archive.maps true (kept_maps k) ++ ends

  inner_cause : (j r : ℕ) → There inner j r → KeptCause k j (6 + r)
  unfolding inner
  inner_cause j r h = ⊎_elim (map_cause j r) right (there_split (maps_causes archive.maps true (kept_maps k)) h)
    where
      right : (q : ℕ) × (r ≡ length (maps_causes archive.maps true (kept_maps k)) + q) × There ends j q → KeptCause k j (6 + r)
      right x =
          let e : 6 + r ≡ 6 + map_count k + x.0 = omega (arith, x.1, maps_places archive.maps true (kept_maps k)) in
          rw e (end_cause j x.0 (at_there x.2).0 (at_there x.2).1)

  form_cause : (j r : ℕ) → There (form_causes k) j r → KeptCause k j (5 + r)
  unfolding form_causes inner ends
  form_cause j zero h = rw (at_there h).1 (few_maps (ltb-true (length k) (columns_at k) (at_there h).0))
  form_cause j (suc r) h = let e : 5 + suc r ≡ 6 + r = omega arith in let a = at_there h in rw (e, a.1) (inner_cause _ r (there_at inner r a.0))

  form_places : length (form_causes k) ≡ 3 + map_count k
  unfolding form_causes ends
  form_places = omega (arith, length-append (maps_causes archive.maps true (kept_maps k)) ends, maps_places archive.maps true (kept_maps k))

  pub there_kept_cause : {j r : ℕ} → There (kept_causes k) j r → KeptCause k j r
  unfolding kept_causes kept_turns header_causes count_causes across
  there_kept_cause {j} {r} h = ⊎_elim header_cause right (there_split (header_causes archive k) h)
    where
      values : (q : ℕ) → (p : ℕ) × (q ≡ length (form_causes k) + p) × There (turns_causes archive.refusals (counts_in k) (turns_across (map_count k) across 0)) j p → KeptCause k j (5 + q)
      values q x = let e : 5 + q ≡ value_place k 0 x.0 = omega (arith, x.1, form_places) in rw e (turns_cause (map_count k) 0 (omega arith) j x.0 x.2)

      right : (q : ℕ) × (r ≡ 5 + q) × There (form_causes k ++ turns_causes archive.refusals (counts_in k) (turns_across (map_count k) across 0)) j q → KeptCause k j r
      right x = rw x.1 (⊎_elim (form_cause j x.0) (values x.0) (there_split (form_causes k) x.2))

  -- ---- from the words to the list

  skip : (d n i : ℕ) {j r : ℕ} → There (turns_causes archive.refusals (counts_in k) (turns_across n across (i + d))) j r → There (turns_causes archive.refusals (counts_in k) (turns_across (d + n) across i)) j (5 * d + r)
  unfolding turns_causes turns_across turn_causes
  skip zero n i {j} {r} h = rw (zero-add n, zero-add r) (rw (add-zero i) at h)
  skip (suc d) n i {j} {r} h =
      let e : i + suc d ≡ i + 1 + d = omega arith in
      let t = skip d n (i + 1) (subst (λ (x : ℕ). There (turns_causes archive.refusals (counts_in k) (turns_across n across x)) j r) e h) in
      let a : suc d + n ≡ suc (d + n) = omega arith in
      let b : 5 * suc d + r ≡ 5 + (5 * d + r) = omega arith in
      subst₂ (λ (x y : ℕ). There (turns_causes archive.refusals (counts_in k) (turns_across x across i)) j y) (sym a) (sym b) (there_right (turn_causes archive.refusals (counts_in k) (turn_across across i)) t)

  value_there : (i : ℕ) → i < map_count k → (r : ℕ) → (cause_at (turn_causes archive.refusals (counts_in k) (kept_turn k i)) r).there ≡ true → There (kept_causes k) (cause_at (turn_causes archive.refusals (counts_in k) (kept_turn k i)) r).number (value_place k i r)
  unfolding kept_causes kept_turns turns_causes turns_across header_causes count_causes across
  value_there i h r e =
      let n = map_count k - suc i in
      let j = (cause_at (turn_causes archive.refusals (counts_in k) (kept_turn k i)) r).number in
      let t : There (turns_causes archive.refusals (counts_in k) (turns_across (suc n) across i)) j r = there_left _ (there_at (turn_causes archive.refusals (counts_in k) (kept_turn k i)) r e) in
      let s : There (turns_causes archive.refusals (counts_in k) (turns_across (i + suc n) across 0)) j (5 * i + r) = skip i (suc n) 0 (rw (zero-add i) t) in
      let m : i + suc n ≡ map_count k = omega arith in
      let u = there_right (form_causes k) (subst (λ (x : ℕ). There (turns_causes archive.refusals (counts_in k) (turns_across x across 0)) j (5 * i + r)) m s) in
      let v : There (kept_causes k) j (5 + (length (form_causes k) + (5 * i + r))) = there_right (header_causes archive k) u in
      let p : value_place k i r ≡ 5 + (length (form_causes k) + (5 * i + r)) = omega (arith, form_places) in
      rw p v

  header_there : {j r : ℕ} → r < 5 → CauseFor archive k j r → There (kept_causes k) j r
  unfolding kept_causes header_causes count_causes causes_for
  header_there {j} {r} h c = ⊎_elim (λ t. there_left _ t) (λ x. absurd (omega (arith, x.1))) (there_split (header_causes archive k) (cause_there_for archive archive_sound.mark k c))

  form_there : {j r : ℕ} → There (form_causes k) j r → There (kept_causes k) j (5 + r)
  unfolding kept_causes header_causes count_causes
  form_there t = there_right (header_causes archive k) (there_left _ t)

  inner_there : {j r : ℕ} → There inner j r → There (kept_causes k) j (6 + r)
  unfolding form_causes inner ends
  inner_there {j} {r} t = let e : 6 + r ≡ 5 + suc r = omega arith in rw e (form_there (later t))

  end_there : (r : ℕ) → (cause_at ends r).there ≡ true → There (kept_causes k) (cause_at ends r).number (6 + map_count k + r)
  unfolding inner
  end_there r e =
      let p : 6 + map_count k + r ≡ 6 + (length (maps_causes archive.maps true (kept_maps k)) + r) = omega (arith, maps_places archive.maps true (kept_maps k)) in
      rw p (inner_there (there_right (maps_causes archive.maps true (kept_maps k)) (there_at ends r e)))

  map_there : (i : ℕ) → i < map_count k → WrongMap shift_sheet.maps i (kept_map k i) → There (kept_causes k) bad_map (6 + i)
  unfolding inner archive
  map_there i h w = inner_there (there_left _ (at_map shift_sheet.maps true (kept_maps k) i h ((wrong_iff shift_sheet.maps i (kept_map k i)).1 w)))

  pub kept_cause_there : {j r : ℕ} → KeptCause k j r → There (kept_causes k) j r
  unfolding turn_causes archive shift_sheet ends form_causes
  kept_cause_there (of_header h c) = header_there h c
  kept_cause_there (few_maps h) = form_there (here (lt-ltb (length k) (columns_at k) h))
  kept_cause_there (wrong_map i l h) = map_there i l h
  kept_cause_there (too_short h) = let p : 6 + map_count k ≡ 6 + map_count k + 0 = omega arith in rw p (end_there 0 (lt-ltb (length k) (kept_end k) h))
  kept_cause_there (too_long h) = let p : 7 + map_count k ≡ 6 + map_count k + 1 = omega arith in rw p (end_there 1 (lt-ltb (kept_end k) (length k) h))
  kept_cause_there (slope i l h) = value_there i l 0 ((outside_iff (kept_turn k i).slope (counts_in k).slopes).1 h)
  kept_cause_there (groomer i l h) = value_there i l 1 ((outside_iff (kept_turn k i).groomer (counts_in k).groomers).1 h)
  kept_cause_there (time i l h) = value_there i l 2 ((past_iff (kept_turn k i).start (kept_turn k i).length).1 h)
  kept_cause_there (worth i l h) = value_there i l 3 ((outside_iff (kept_turn k i).worth most_worth).1 h)
  kept_cause_there (driver i l h) = value_there i l 4 (lt-ltb most_driver (kept_turn k i).driver h)

  pub kept_causes_iff : (j r : ℕ) → KeptCause k j r ↔ There (kept_causes k) j r
  kept_causes_iff j r = (kept_cause_there, there_kept_cause)

  -- ---- with the lent bytes

  turns_places : (n i : ℕ) → length (turns_causes archive.refusals (counts_in k) (turns_across n across i)) ≡ 5 * n
  unfolding turns_causes turns_across turn_causes
  turns_places zero i = refl
  turns_places (suc n) i = omega (arith, turns_places n (i + 1))

  kept_places : length (kept_causes k) ≡ value_place k (map_count k) 0
  unfolding kept_causes kept_turns header_causes count_causes across
  kept_places = omega (arith, length-append (form_causes k) (turns_causes archive.refusals (counts_in k) (turns_across (map_count k) across 0)), form_places, turns_places (map_count k) 0)

  kept_within : Within (KeptCause k) (value_place k (map_count k) 0)
  kept_within j r c = omega (arith, says_within (KeptCause k) (kept_causes k) kept_causes_iff j r c, kept_places)

  kept_tells : Tells (KeptCause k) (kept_causes k)
  kept_tells = says_tells (KeptCause k) (kept_causes k) kept_causes_iff (kept_numbered k)

-- ---- the number that is given

pub restore_number : (k lent : List ℕ) → (restore_of k lent).answer.refusal ≡ first_of (restore_causes k (length lent))
unfolding restore_of
restore_number k lent = written_number (restore_causes k (length lent)) (restored_of k) lent

pub keep_number : (s lent : List ℕ) → (keep_of s lent).answer.refusal ≡ first_of (keep_causes s (length lent))
unfolding keep_of
keep_number s lent = written_number (keep_causes s (length lent)) (kept_of s) lent

-- a refusal leaves the lent bytes as they were, and says that none is written: of keeping, and of restoring
pub keep_unchanged : (s lent : List ℕ) → ((keep_of s lent).answer.refusal ≡ 0 → ⊥) → keep_of s lent ≡ kept (keep_of s lent).answer.refusal lent
unfolding keep_of
keep_unchanged s lent = written_not (keep_causes s (length lent)) (kept_of s) lent

pub restore_unchanged : (k lent : List ℕ) → ((restore_of k lent).answer.refusal ≡ 0 → ⊥) → restore_of k lent ≡ kept (restore_of k lent).answer.refusal lent
unfolding restore_of
restore_unchanged k lent = written_not (restore_causes k (length lent)) (restored_of k) lent

-- restoring gives j exactly where the first cause has number j
pub restore_refused_iff : (k lent : List ℕ) (j : ℕ) → (j ≡ 0 → ⊥) → ((restore_of k lent).answer.refusal ≡ j) ↔ FirstRestoreCause k (length lent) j
unfolding restore_of restore_causes
restore_refused_iff k lent =
    written_iff (restore_causes k (length lent)) _ lent (room_tells (value_place k (map_count k) 0) (kept_within k) (kept_causes k) (kept_numbered k) (kept_tells k) (length k) (length lent))

-- keeping gives j exactly where the first cause has number j
pub keep_refused_iff : (s lent : List ℕ) (j : ℕ) → (j ≡ 0 → ⊥) → ((keep_of s lent).answer.refusal ≡ j) ↔ FirstKeepCause s (length lent) j
unfolding keep_of keep_causes
keep_refused_iff s lent = written_iff (keep_causes s (length lent)) _ lent (lent_tell s (length s) (length lent))

-- restoring refuses nothing just if the kept form is accepted and the lent bytes are as many
pub restore_accepted_iff : {k : List ℕ} → Bytes k → (lent : List ℕ) → ((restore_of k lent).answer.refusal ≡ 0) ↔ (AcceptedKept k × (length k ≤ length lent))
unfolding restore_causes
restore_accepted_iff {k} b lent =
    let e = enough_iff (kept_causes k) (length lent) (length k) (kept_numbered k) in
    let a = accepted_kept_iff b in
    (λ z. let h = e.0 (sym (restore_number k lent) ∙ z) in (a.0 h.0, h.1), λ h. restore_number k lent ∙ e.1 (a.1 h.0, h.1))

-- keeping refuses nothing just if the sheet is accepted and the lent bytes are as many
pub keep_accepted_iff : {s : List ℕ} → Bytes s → (lent : List ℕ) → ((keep_of s lent).answer.refusal ≡ 0) ↔ (Accepted s × (length s ≤ length lent))
unfolding keep_causes
keep_accepted_iff {s} b lent = lent_accepted_iff b (length s) (length lent) (keep_number s lent)

-- in words alone: a kept form is accepted just if no cause is there
pub accepted_kept_no_cause : {k : List ℕ} → Bytes k → AcceptedKept k ↔ ((j r : ℕ) → KeptCause k j r → ⊥)
accepted_kept_no_cause {k} b = let none = tells_none (kept_tells k) in let a = accepted_kept_iff b in (λ h. none.0 (a.1 h), λ n. a.0 (none.1 n))
