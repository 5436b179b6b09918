-- From a kept form to its sheet by cases, each premise in the form in which the code's calls and tests leave it. Assumes nothing.
use Prim.Native.Nat.{ℕ, ◌+◌, ◌-◌, ◌*◌, ◌<◌, ◌≤◌}
use mathlib.Core.Path.{◌≡◌, refl, sym, ◌∙◌, ap, ap₂}
use mathlib.Core.Bool.{Bool, true, false}
use mathlib.Core.List.{List, [], ◌∷◌, ◌++◌}
use native.Mathlib.Omega.{arith}
use lib.Dec.{ltb}
use lib.ListN.{length, get_or, take, drop, length-drop}
use lib.Seq.{drop-length, take_all}
use borrow.Author.Tests.{lt-ltb, le-ltb}
use Rattle.lists.proofs.Places.{drop_step}
use Rattle.refusal.specs.Number.{truncated, bad_map, trailing_bytes, buffer_too_small}
use Rattle.refusal.specs.Cause.{Cause, ◌when◌, first_of}
use Rattle.refusal.proofs.Order.{first_stops, first_goes, clear_append}
use Rattle.refusal.proofs.Written.{kept_before, kept_small, wrote_enough}
use Rattle.wire.specs.Number.{bytes_at, puts}
use Rattle.wire.specs.Mark.{sheet_mark, kept_mark}
use Rattle.wire.proofs.Puts.{puts_front, puts_append}
use Rattle.turn.specs.declared.Turn.{Turn}
use Rattle.turn.specs.declared.Counts.{Counts}
use Rattle.turn.specs.Turn.{turn_in, turns_of_table, Numbered}
use Rattle.turn.proofs.Rows.{turns_step}
use Rattle.sheet.specs.declared.kind.Maps.{Maps}
use Rattle.sheet.specs.Kind.{Kind, shift_sheet, most_turns}
use Rattle.sheet.specs.Record.{width_of, record_bytes, bad_map_for}
use Rattle.sheet.specs.Read.{header_bytes, counts_in, turn_count, header_causes}
use Rattle.sheet.specs.Layout.{record_of}
use Rattle.sheet.proofs.Headers.{header_numbered, header_few, header_fine}
use Rattle.sheet.proofs.Fields.{width_most, record_length}
use Rattle.refusal.specs.declared.WriteAnswer.{WriteAnswer}
use Rattle.refusal.specs.Outcome.{beside}
use Rattle.write_spec.specs.Write.{turns_causes}
use Rattle.archive_spec.specs.Column.{widths, columns_in, turns_across}
use Rattle.archive_spec.specs.Kept.{form_with, records_body, archive, kept_maps, columns_at, kept_end, kept_turns, restored_of}
use Rattle.archive_spec.specs.Archive.{maps_causes, form_causes, kept_causes, restore_causes, restore_of}
use Rattle.archive_spec.proofs.Bodies.{maps_numbered, records_length}
use Rattle.archive_spec.proofs.Accepting.{archive_sound, form_numbered, kept_numbered, FineForm, form_fine, maps_count, turns_long}

-- ---- the kind and the maps' part

pub archive_made : {K : Kind} → K ≡ shift_sheet → ◌≡◌ {A = Kind} (record { mark = kept_mark; most = K.most; maps = K.maps; refusals = K.refusals }) archive
unfolding archive
archive_made e = rw e

module _ (k : List ℕ) (n : ℕ) where
  -- the part after the header, as the code takes it
  behind_header : take (length k - header_bytes) (drop header_bytes k) ≡ drop header_bytes k
  behind_header = take_all (length k - header_bytes) (drop header_bytes k) (omega (arith, length-drop header_bytes k))

  pub maps_part : n ≡ turn_count k → take n (take (length k - header_bytes) (drop header_bytes k)) ≡ kept_maps k
  unfolding kept_maps
  maps_part e = ap (take n) behind_header ∙ ap (λ (x : ℕ). take x (drop header_bytes k)) e

  pub maps_part_length : n ≡ turn_count k → columns_at k ≤ length k → length (take n (take (length k - header_bytes) (drop header_bytes k))) ≡ n
  maps_part_length e h = ap length (maps_part e) ∙ maps_count k h ∙ sym e

  pub maps_part_kept : n ≡ turn_count k → columns_at k ≤ length k → n ≡ length (take n (take (length k - header_bytes) (drop header_bytes k)))
  maps_part_kept e h = sym (maps_part_length e h)

pub ruleset maps_part_cases = (maps_part, maps_part_length, maps_part_kept)

-- ---- each map

module _ (rule : Maps) (maps : List ℕ) (first : Bool) (i : ℕ) {b : Bool} {a : ℕ} where
  pub map_bad : i < length maps → b ≡ bad_map_for rule first (get_or maps i 0) → b ≡ true → first_of (maps_causes rule first (drop i maps)) ≡ a → bad_map ≡ a
  unfolding maps_causes first_of
  map_bad h e t q = let p : bad_map_for rule first (get_or maps i 0) ≡ true = sym e ∙ t in rw (drop_step maps i h, p) at q

  pub map_good : i < length maps → b ≡ bad_map_for rule first (get_or maps i 0) → b ≡ false → first_of (maps_causes rule first (drop i maps)) ≡ a → first_of (maps_causes rule false (drop (i + 1) maps)) ≡ a
  unfolding maps_causes first_of
  map_good h e t q = let p : bad_map_for rule first (get_or maps i 0) ≡ false = sym e ∙ t in rw (drop_step maps i h, p) at q

pub maps_end : (rule : Maps) (maps : List ℕ) (first : Bool) (i : ℕ) {a : ℕ} → length maps ≤ i → i ≤ length maps → first_of (maps_causes rule first (drop i maps)) ≡ a → 0 ≡ a
unfolding maps_causes first_of
maps_end rule maps first i h k q = let z : i ≡ length maps = omega arith in rw (z, drop-length maps) at q

pub ruleset map_fault_cases = (map_bad, map_good, maps_end)

-- ---- how many bytes they name

module _ (maps : List ℕ) (i sum : ℕ) where
  width_ahead : i < length maps → widths (drop i maps) ≡ width_of (get_or maps i 0) + widths (drop (i + 1) maps)
  unfolding widths
  width_ahead h = rw (drop_step maps i h)

  pub width_more : {w a : ℕ} → i < length maps → w ≡ width_of (get_or maps i 0) → sum + widths (drop i maps) ≡ a → sum + w + widths (drop (i + 1) maps) ≡ a
  width_more h p q = omega (arith, width_ahead h)

  pub width_near : {w : ℕ} → w < record_bytes → sum ≤ record_bytes * i → sum + w ≤ record_bytes * (i + 1)
  width_near p q = omega arith

  pub width_done : {a : ℕ} → length maps ≤ i → i ≤ length maps → sum + widths (drop i maps) ≡ a → sum ≡ a
  unfolding widths
  width_done h k q =
      let z : i ≡ length maps = omega arith in
      let n : widths (drop i maps) ≡ 0 = rw (z, drop-length maps) in
      omega arith

pub ruleset width_cases = (width_more, width_near, width_done)

-- ---- the form after the header

module _ (k : List ℕ) (n : ℕ) (e : n ≡ turn_count k) where
  pub form_few : length k < header_bytes + n → truncated ≡ first_of (form_causes k)
  unfolding form_causes first_of
  form_few h = rw (← e, lt-ltb (length k) (header_bytes + n) h)

  module _ (rule : Maps) (r : rule ≡ archive.maps) (h : header_bytes + n ≤ length k) {maps : List ℕ} {f : ℕ} (m : maps ≡ kept_maps k) (q : f ≡ first_of (maps_causes rule true maps)) where
    fault_is : first_of (maps_causes archive.maps true (kept_maps k)) ≡ f
    fault_is = rw (← r, ← m) (sym q)

    behind_maps : first_of (form_causes k) ≡ first_of (maps_causes archive.maps true (kept_maps k) ++ truncated when ltb (length k) (kept_end k) ∷ trailing_bytes when ltb (kept_end k) (length k) ∷ [])
    unfolding form_causes first_of
    behind_maps = rw (← e, le-ltb (length k) (header_bytes + n) h)

    pub form_map : (f ≡ 0 → ⊥) → f ≡ first_of (form_causes k)
    form_map z = sym (behind_maps ∙ first_stops (maps_causes archive.maps true (kept_maps k)) _ f fault_is z)

    module _ (z : f ≡ 0) {w : ℕ} (p : w ≡ widths maps) where
      end_is : kept_end k ≡ header_bytes + n + w
      unfolding kept_end
      end_is = rw (p, m, e)

      past_maps : first_of (form_causes k) ≡ first_of (truncated when ltb (length k) (header_bytes + n + w) ∷ trailing_bytes when ltb (header_bytes + n + w) (length k) ∷ [])
      past_maps = behind_maps ∙ first_goes (maps_causes archive.maps true (kept_maps k)) _ (maps_numbered archive.maps true (kept_maps k)) (fault_is ∙ z) ∙ rw end_is

      pub form_short : length k < header_bytes + n + w → truncated ≡ first_of (form_causes k)
      unfolding first_of
      form_short l = sym (past_maps ∙ rw (lt-ltb (length k) (header_bytes + n + w) l))

      pub form_long : header_bytes + n + w ≤ length k → header_bytes + n + w < length k → trailing_bytes ≡ first_of (form_causes k)
      unfolding first_of
      form_long g l = sym (past_maps ∙ rw (le-ltb (length k) (header_bytes + n + w) g, lt-ltb (header_bytes + n + w) (length k) l))

      pub form_none : header_bytes + n + w ≤ length k → length k ≤ header_bytes + n + w → 0 ≡ first_of (form_causes k)
      unfolding first_of
      form_none g l = sym (past_maps ∙ rw (le-ltb (length k) (header_bytes + n + w) g, le-ltb (header_bytes + n + w) (length k) l))

-- ---- the values after it

end_of : (k : List ℕ) → columns_at k + widths (kept_maps k) ≡ kept_end k
unfolding kept_end
end_of k = refl

module _ (k : List ℕ) {f : ℕ} (q : f ≡ first_of (form_causes k)) where
  pub judge_fault : (cs : List Cause) → (f ≡ 0 → ⊥) → f ≡ first_of (form_causes k ++ cs)
  judge_fault cs z = sym (first_stops (form_causes k) cs f (sym q) z)

  module _ (z : f ≡ 0) where
    fine : FineForm k
    fine = form_fine k (sym q ∙ z)

    pub judge_whole : columns_at k ≤ length k
    judge_whole = fine.maps_whole

    pub judge_room : {n : ℕ} {maps : List ℕ} → n ≡ turn_count k → maps ≡ kept_maps k → header_bytes + n + widths maps ≤ length k
    judge_room e m = rw (e, m) (omega (arith, end_of k, fine.ends))

    module _ (table : List ℕ) {n : ℕ} {maps : List ℕ} (e : n ≡ turn_count k) (m : maps ≡ kept_maps k) (l : length maps ≡ n)
        (r : turns_of_table (length maps) table 0 ≡ turns_across (length maps) (columns_in maps k (header_bytes + n)) 0) where
      pub judge_read : turns_of_table n table 0 ≡ kept_turns k
      unfolding kept_turns
      judge_read = ap (λ (x : ℕ). turns_of_table x table 0) (sym l) ∙ r ∙ rw (m, e)

      pub judge_table : turns_of_table (turn_count k) table 0 ≡ kept_turns k
      judge_table = ap (λ (x : ℕ). turns_of_table x table 0) (sym e) ∙ judge_read

      pub judge_values : (K : Kind) (limits : Counts) {g : ℕ} → K ≡ archive → limits ≡ counts_in k → g ≡ first_of (turns_causes K.refusals limits (turns_of_table n table 0))
          → g ≡ first_of (form_causes k ++ turns_causes archive.refusals (counts_in k) (kept_turns k))
      judge_values K limits a b c = c ∙ rw (a, b, judge_read) (sym (first_goes (form_causes k) _ (form_numbered k) (sym q ∙ z)))

pub kind_numbered : {K : Kind} → K ≡ archive → Numbered K.refusals
kind_numbered e = rw e archive_sound.numbers

-- ---- the whole kept form

module _ (k : List ℕ) (K : Kind) (a : K ≡ archive) where
  of_archive : {f : ℕ} → f ≡ first_of (header_causes K k) → first_of (header_causes archive k) ≡ f
  of_archive e = sym (e ∙ ap (λ (x : Kind). first_of (header_causes x k)) a)

  pub kept_header : {f : ℕ} → (f ≡ 0 → ⊥) → f ≡ first_of (header_causes K k) → f ≡ first_of (kept_causes k)
  unfolding kept_causes
  kept_header {f} z e = sym (first_stops (header_causes archive k) _ f (of_archive e) z)

  module _ (e : 0 ≡ first_of (header_causes K k)) where
    pub kept_few : {n : ℕ} → n ≡ turn_count k → n ≤ most_turns
    kept_few c = omega (arith, c, header_few archive archive_sound.numbers k (of_archive e), archive_sound.turns)

    pub kept_rest : {f : ℕ} → f ≡ first_of (form_causes k ++ turns_causes archive.refusals (counts_in k) (kept_turns k)) → f ≡ first_of (kept_causes k)
    unfolding kept_causes
    kept_rest q = q ∙ sym (first_goes (header_causes archive k) _ (header_numbered archive archive_sound.numbers k) (of_archive e))

-- ---- the records

module _ (maps table : List ℕ) (i at : ℕ) where
  pub records_room : {e n o : ℕ} → i < length maps → at + (length maps - i) + widths (drop i maps) ≡ e → e ≤ n → o ≡ n → at + 1 + width_of (get_or maps i 0) ≤ o
  records_room h p q r = omega (arith, width_ahead maps i 0 h)

  pub records_size : {at' e : ℕ} → i < length maps → at' ≡ at + 1 + width_of (get_or maps i 0) → at + (length maps - i) + widths (drop i maps) ≡ e → at' + (length maps - (i + 1)) + widths (drop (i + 1) maps) ≡ e
  records_size h p q = omega (arith, width_ahead maps i 0 h)

  pub records_more : (l : List ℕ) {at' : ℕ} {t : Turn} {l' z : List ℕ} → i < length maps → t ≡ turn_in table i → at' ≡ at + 1 + width_of (get_or maps i 0) → l' ≡ puts l at (record_of (get_or maps i 0) t)
      → puts l at (records_body (drop i maps) (turns_of_table (length maps - i) table i)) ≡ z → puts l' at' (records_body (drop (i + 1) maps) (turns_of_table (length maps - (i + 1)) table (i + 1))) ≡ z
  unfolding records_body
  records_more l {at'} {t} {l'} {z} h p q o e =
      let m = get_or maps i 0 in
      let rest = records_body (drop (i + 1) maps) (turns_of_table (length maps - (i + 1)) table (i + 1)) in
      let s : puts l at (record_of m t ++ rest) ≡ z = rw p (rw (drop_step maps i h, turns_step (length maps) i table h) at e) in
      rw o (puts_append (record_of m t) rest l at at' (omega (arith, record_length m t))) ∙ s

  pub records_done : (l : List ℕ) {z : List ℕ} → length maps ≤ i → i ≤ length maps → puts l at (records_body (drop i maps) (turns_of_table (length maps - i) table i)) ≡ z → l ≡ z
  unfolding records_body
  records_done l h k e = let q : i ≡ length maps = omega arith in rw (q, drop-length maps) at e

pub records_start : (maps table l : List ℕ) (at : ℕ) → puts l at (records_body (drop 0 maps) (turns_of_table (length maps - 0) table 0)) ≡ puts l at (records_body maps (turns_of_table (length maps) table 0))
records_start maps table l at = let z : length maps - 0 ≡ length maps = omega arith in rw z

pub records_first : (maps : List ℕ) (at : ℕ) → at + (length maps - 0) + widths (drop 0 maps) ≡ at + length maps + widths maps
records_first maps at = omega arith

pub ruleset records_cases = (records_room, records_size, records_more, records_done, records_start, records_first)

pub sheet_put : (l k maps table : List ℕ) (n : ℕ) {l1 l2 : List ℕ} → l1 ≡ puts l 0 (bytes_at sheet_mark 0 3 ++ bytes_at k 3 4) → maps ≡ kept_maps k → length maps ≡ n
    → l2 ≡ puts l1 header_bytes (records_body maps (turns_of_table (length maps) table 0)) → l2 ≡ puts l 0 (form_with sheet_mark k (records_body (kept_maps k) (turns_of_table n table 0)))
sheet_put l k maps table n {l1} e m c f =
    let body = records_body maps (turns_of_table (length maps) table 0) in
    f ∙ rw e (puts_append (bytes_at sheet_mark 0 3 ++ bytes_at k 3 4) body l 0 header_bytes refl) ∙ ap₂ (λ (x : List ℕ) (y : ℕ). puts l 0 (form_with sheet_mark k (records_body x (turns_of_table y table 0)))) m c

pub sheet_size : (k maps : List ℕ) {n : ℕ} → maps ≡ kept_maps k → length maps ≡ n → n ≡ turn_count k → header_bytes + length maps + widths maps ≡ columns_at k + widths (kept_maps k)
sheet_size k maps m l e = ap₂ (λ (x : ℕ) (y : List ℕ). header_bytes + x + widths y) (l ∙ e) m

widths_most : (ms : List ℕ) → widths ms ≤ 9 * length ms
unfolding widths
widths_most [] = omega arith
widths_most (m ∷ ms) = omega (arith, width_most m, widths_most ms)

-- ---- the entry

module _ (k lent : List ℕ) {f : ℕ} (e : f ≡ first_of (kept_causes k)) where
  pub restore_fault : {x : WriteAnswer} → (f ≡ 0 → ⊥) → x ≡ record { refusal = f; bytes = 0 } → beside x lent ≡ restore_of k lent
  unfolding restore_of restore_causes
  restore_fault z x = rw x (sym (kept_before (kept_causes k) (length k) (restored_of k) lent f (sym e) z))

  module _ (z : f ≡ 0) where
    pub restore_small : {x : WriteAnswer} → length lent < length k → x ≡ record { refusal = buffer_too_small; bytes = 0 } → beside x lent ≡ restore_of k lent
    unfolding restore_of restore_causes
    restore_small h x = rw x (sym (kept_small (kept_causes k) (length k) (restored_of k) lent (kept_numbered k) (sym e ∙ z) h))

    parts : (first_of (header_causes archive k) ≡ 0) × (first_of (form_causes k) ≡ 0)
    unfolding kept_causes
    parts =
        let p = clear_append (header_causes archive k) _ (header_numbered archive archive_sound.numbers k) (sym e ∙ z) in
        (p.0, (clear_append (form_causes k) _ (form_numbered k) p.1).0)

    pub restore_header : header_bytes ≤ length k
    restore_header = (header_fine archive archive_sound.numbers k parts.0).whole

    pub restore_few : turn_count k ≤ most_turns
    restore_few = omega (arith, header_few archive archive_sound.numbers k parts.0, archive_sound.turns)

    pub restore_whole : columns_at k ≤ length k
    restore_whole = (form_fine k parts.1).maps_whole

    pub restore_end : columns_at k + widths (kept_maps k) ≡ length k
    restore_end = end_of k ∙ (form_fine k parts.1).ends

    pub restore_bytes : length k ≤ header_bytes + record_bytes * most_turns
    restore_bytes = omega (arith, restore_end, restore_few, widths_most (kept_maps k), maps_count k restore_whole)

    restored_size : length (restored_of k) ≡ length k
    unfolding restored_of
    restored_size = omega (arith, records_length (kept_maps k) (kept_turns k) (turns_long k), maps_count k restore_whole, restore_end)

    own_sheet : (u t : List ℕ) {n : ℕ} → n ≡ turn_count k → turns_of_table (turn_count k) t 0 ≡ kept_turns k → u ≡ puts lent 0 (form_with sheet_mark k (records_body (kept_maps k) (turns_of_table n t 0))) → u ≡ puts lent 0 (restored_of k)
    unfolding restored_of
    own_sheet u t c w p = p ∙ rw (c, w)

    pub restore_done : (t : List ℕ) {n : ℕ} {u : List ℕ} → n ≡ turn_count k → turns_of_table (turn_count k) t 0 ≡ kept_turns k → length k ≤ length lent
        → u ≡ puts lent 0 (form_with sheet_mark k (records_body (kept_maps k) (turns_of_table n t 0))) → beside (record { refusal = 0; bytes = length k }) u ≡ (restore_of k lent)
    unfolding restore_of restore_causes
    restore_done t {n} {u} c w h p =
        let put = own_sheet u t c w p in
        let front : u ≡ restored_of k ++ drop (length (restored_of k)) lent = put ∙ puts_front (restored_of k) lent (omega (arith, restored_size)) in
        ap₂ (λ (b : ℕ) (l : List ℕ). beside {A = WriteAnswer} (record { refusal = 0; bytes = b }) l) (sym restored_size) front ∙ sym (wrote_enough (kept_causes k) (length k) (restored_of k) lent (kept_numbered k) (sym e ∙ z) h)
