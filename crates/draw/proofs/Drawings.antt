-- Drawing by its cases, each premise in the form in which the code's calls and tests leave it. Assumes nothing.
use Prim.Native.Nat.{ℕ, zero, suc, ◌+◌, ◌-◌, ◌*◌, ◌%◌, ◌<◌, ◌≤◌}
use mathlib.Core.Path.{◌≡◌, sym, ◌∙◌, ap}
use mathlib.Core.List.{List, [], ◌∷◌, append-nil}
use native.Mathlib.Omega.{arith}
use native.Mathlib.Numerals.{sub-one}
use lib.Dec.{leb}
use lib.ListN.{length, set, take, drop, length-map, length-set, length-take, drop_of_length-le}
use mir.Syntax.{w16, w32}
use mir.Val.{Fits}
use borrow.Author.Tests.{lt-ltb, le-ltb, ne_eqb}
use Rattle.refusal.specs.declared.WriteAnswer.{WriteAnswer}
use Rattle.refusal.specs.Number.{bad_seed}
use Rattle.refusal.specs.Cause.{first_of}
use Rattle.refusal.specs.Written.{Written, write_refused}
use Rattle.refusal.proofs.Written.{kept_before}
use Rattle.wire.specs.Number.{puts}
use Rattle.wire.proofs.Puts.{puts_front}
use Rattle.turn.specs.declared.Turn.{Turn}
use Rattle.turn.specs.declared.Counts.{Counts}
use Rattle.turn.specs.Turn.{counts_of, outside_range}
use Rattle.turn.proofs.Rows.{turns_rows}
use Rattle.sheet.specs.Kind.{Kind, shift_sheet, most_turns}
use Rattle.sheet.specs.Read.{count_causes}
use Rattle.sheet.specs.Accepted.{Legal}
use Rattle.sheet.proofs.Headers.{legal_counts}
use Rattle.lists.specs.Sorting.{sort_by}
use Rattle.write_spec.specs.Write.{written_turns, table_causes, write_of, sheet_written}
use Rattle.write_spec.specs.Key.{key_of, keys_of, turns_of_keys, turns_by_key}
use Rattle.write_spec.proofs.Writable.{table_sorted, write_clear}
use Rattle.refusal.specs.Outcome.{beside}
use Rattle.draw.specs.declared.Drawn.{Drawn}
use Rattle.draw_spec.specs.Draw.{draw_modulus, most_draw, draw_number, drawn_length, length_places, drawn_starts, from_one, turn_drawn, turn_draws, turn_after, drawn_turns, drawn_table, Drawable}
use Rattle.draw_spec.specs.DrawnSheet.{seed_causes, draw_causes, draw_of}
use Rattle.draw_spec.proofs.Draws.{drawn_length_lem, number_drawable, number_one, number_two, number_three, number_four, number_five}
use Rattle.draw_spec.proofs.DrawnSheets.{drawn_causes, seed_iff, drawn_as_written}

-- ---- one turn

module _ (counts : Counts) (slope groomer start minutes worth : ℕ) where
  pub turn_of_draws : {a b c d : ℕ} → a ≡ from_one counts.slopes slope → b ≡ from_one counts.groomers groomer → c ≡ drawn_length (minutes % length_places) → d ≡ from_one 60000 worth
      → ◌≡◌ {A = Turn} (record { slope = a; groomer = b; start = start % drawn_starts; length = c; worth = d; driver = 0 }) (turn_drawn counts slope groomer start minutes worth)
  unfolding turn_drawn
  turn_of_draws p q r s = rw (p, q, r, s)

module _ (counts : Counts) (x : ℕ) {a b c d e : ℕ}
    (p : a ≡ 16807 * x % draw_modulus) (q : b ≡ 282475249 * x % draw_modulus) (r : c ≡ 1622650073 * x % draw_modulus) (s : d ≡ 984943658 * x % draw_modulus) (t : e ≡ 1144108930 * x % draw_modulus) where
  pub turn_of_five : {u : Turn} → u ≡ turn_drawn counts a b c d e → u ≡ turn_after counts x
  unfolding turn_after
  turn_of_five h = h ∙ rw (number_one x, number_two x, number_three x, number_four x, number_five x, p, q, r, s, t)

  pub last_of_five : e ≡ draw_number turn_draws x
  last_of_five = t ∙ sym (number_five x)

  pub last_drawable : Drawable x → Drawable e
  last_drawable h = rw last_of_five (number_drawable turn_draws x h)

pub ruleset five_cases = (turn_of_five, last_of_five, last_drawable)

-- ---- turns one after another

turns_more : (n : ℕ) (counts : Counts) (x : ℕ) → 0 < n → drawn_turns n counts x ≡ turn_after counts x ∷ drawn_turns (n - 1) counts (draw_number turn_draws x)
unfolding drawn_turns
turns_more zero counts x h = absurd (omega arith)
turns_more (suc n) counts x h = simp sub-one

keys_length : (n : ℕ) (counts : Counts) (x : ℕ) → length (keys_of (drawn_turns n counts x)) ≡ n
keys_length n counts x = length-map (drawn_turns n counts x) key_of ∙ drawn_length_lem n counts x

module _ (n : ℕ) (counts : Counts) (x i : ℕ) (l : List ℕ) where
  pub drawn_keys_more : {d : Drawn} {k : ℕ} {a : List ℕ} → i < length l → length l ≡ n → d.turn ≡ turn_after counts x → d.last ≡ draw_number turn_draws x → k ≡ key_of d.turn
      → puts l i (keys_of (drawn_turns (n - i) counts x)) ≡ a → puts (set l i k) (i + 1) (keys_of (drawn_turns (n - (i + 1)) counts d.last)) ≡ a
  drawn_keys_more h g p q r e =
      let z : n - i - 1 ≡ n - (i + 1) = omega arith in
      let m : drawn_turns (n - i) counts x ≡ turn_after counts x ∷ drawn_turns (n - (i + 1)) counts (draw_number turn_draws x) = rw (← z) (turns_more (n - i) counts x (omega arith)) in
      rw (r, p, q) (rw m at e)

  pub drawn_keys_kept : (k : ℕ) → length l ≡ n → length (set l i k) ≡ n
  drawn_keys_kept k g = length-set l i k ∙ g

  pub drawn_keys_done : (seed : ℕ) (l₀ : List ℕ) → length l ≤ i → length l ≡ n → length l₀ ≡ n → puts l i (keys_of (drawn_turns (n - i) counts x)) ≡ puts l₀ 0 (keys_of (drawn_turns n counts seed)) → l ≡ keys_of (drawn_turns n counts seed)
  unfolding drawn_turns
  drawn_keys_done seed l₀ h f g e =
      let ks = keys_of (drawn_turns n counts seed) in
      let z : n - i ≡ 0 = omega arith in
      let s : l ≡ puts l₀ 0 ks = rw z at e in
      let d : drop (length ks) l₀ ≡ [] = drop_of_length-le l₀ {i = length ks} (omega (arith, keys_length n counts seed)) in
      s ∙ puts_front ks l₀ (omega (arith, keys_length n counts seed)) ∙ rw d (append-nil ks)

pub drawn_keys_start : (n : ℕ) (counts : Counts) (seed : ℕ) (l : List ℕ) → puts l 0 (keys_of (drawn_turns (n - 0) counts seed)) ≡ puts l 0 (keys_of (drawn_turns n counts seed))
drawn_keys_start n counts seed l = let z : n - 0 ≡ n = omega arith in rw z

pub ruleset drawn_keys_cases = (drawn_keys_start, drawn_keys_more, drawn_keys_kept, drawn_keys_done)

-- ---- the writer's answer

module _ (n : ℕ) (counts : Counts) (seed : ℕ) (l : Legal shift_sheet counts n) where
  table_right : first_of (table_causes counts (drawn_table n counts seed)) ≡ 0
  table_right = drawn_causes seed counts n ∙ legal_counts shift_sheet counts n l

  pub drawn_put : (places lent : List ℕ) {keys : List ℕ} {w : Written} → n ≤ length places → keys ≡ keys_of (drawn_turns (length (take (n - 0) (drop 0 places))) counts seed)
      → w ≡ sheet_written counts (turns_of_keys (sort_by leb keys)) lent → w ≡ write_of counts (drawn_table n counts seed) lent
  drawn_put places lent {keys} h p e =
      let k : length (take (n - 0) (drop 0 places)) ≡ n = simp length-take (omega arith) in
      let r : keys ≡ keys_of (drawn_turns n counts seed) = rw k at p in
      let s : turns_by_key (drawn_turns n counts seed) ≡ written_turns (drawn_table n counts seed) = ap (λ (ts : List Turn). turns_by_key ts) (sym (turns_rows (drawn_turns n counts seed))) ∙ table_sorted counts (drawn_table n counts seed) table_right in
      e ∙ rw (r, s) (sym (write_clear counts (drawn_table n counts seed) lent table_right))

-- ---- the seed and the counts

module _ (seed : ℕ) (counts : Counts) (turns : ℕ) where
  pub seed_none : seed ≡ 0 → bad_seed ≡ first_of (seed_causes seed counts turns)
  unfolding seed_causes first_of outside_range
  seed_none h = rw h

  pub seed_large : (seed ≡ 0 → ⊥) → draw_modulus ≤ seed → bad_seed ≡ first_of (seed_causes seed counts turns)
  unfolding seed_causes first_of outside_range
  seed_large z h = rw (ne_eqb seed 0 z, lt-ltb most_draw seed (omega arith))

  pub seed_right : {K : Kind} {f : ℕ} → (seed ≡ 0 → ⊥) → seed < draw_modulus → K ≡ shift_sheet → f ≡ first_of (count_causes K counts turns) → f ≡ first_of (seed_causes seed counts turns)
  unfolding seed_causes first_of outside_range
  seed_right z h k e = rw (ne_eqb seed 0 z, le-ltb most_draw seed (omega arith)) (rw k at e)

pub ruleset seed_cases = (seed_none, seed_large, seed_right)

-- ---- the entry

module _ (seed groomers slopes turns : ℕ) {f : ℕ} (e : f ≡ first_of (seed_causes seed (counts_of groomers slopes) turns)) where
  pub draw_refused : (lent : List ℕ) {x : WriteAnswer} → (f ≡ 0 → ⊥) → x ≡ write_refused f → beside x lent ≡ draw_of seed (counts_of groomers slopes) turns lent
  unfolding draw_of draw_causes
  draw_refused lent z x = rw x (sym (kept_before (seed_causes seed (counts_of groomers slopes) turns) _ _ lent f (sym e) z))

  module _ (z : f ≡ 0) where
    parts : Drawable seed × Legal shift_sheet (counts_of groomers slopes) turns
    parts = (seed_iff seed (counts_of groomers slopes) turns).0 (sym e ∙ z)

    pub seed_fits : Drawable seed
    seed_fits = parts.0

    pub counts_fit : Legal shift_sheet (counts_of groomers slopes) turns
    counts_fit = parts.1

    pub seed_in_word : Fits w32 seed
    seed_in_word = let h = parts.0.to in record { fits = omega arith }

    pub groomer_count_fits : Fits w16 groomers
    unfolding shift_sheet
    groomer_count_fits = let h = parts.1.groomers_to in record { fits = omega arith }

    pub slope_count_fits : Fits w16 slopes
    unfolding shift_sheet
    slope_count_fits = let h = parts.1.slopes_to in record { fits = omega arith }

    pub turn_count_fits : Fits w16 turns
    unfolding shift_sheet
    turn_count_fits = let h = parts.1.turns_to in record { fits = omega arith }

    pub turns_few : turns ≤ most_turns
    unfolding shift_sheet
    turns_few = parts.1.turns_to

    pub groomers_from_lem : 1 ≤ groomers
    groomers_from_lem = parts.1.groomers_from_lem

    pub groomers_byte : groomers < 256
    unfolding shift_sheet
    groomers_byte = omega (arith, parts.1.groomers_to)

    pub slopes_from : 1 ≤ slopes
    slopes_from = parts.1.slopes_from

    pub slopes_byte : slopes < 256
    unfolding shift_sheet
    slopes_byte = omega (arith, parts.1.slopes_to)

    pub draw_fine : (lent : List ℕ) {w : Written} → w ≡ write_of (counts_of groomers slopes) (drawn_table turns (counts_of groomers slopes) seed) lent → w ≡ draw_of seed (counts_of groomers slopes) turns lent
    draw_fine lent h = h ∙ sym (drawn_as_written seed (counts_of groomers slopes) turns lent parts.0)

pub ruleset draw_cases = (seed_fits, counts_fit, turns_few, groomers_from_lem, groomers_byte, slopes_from, slopes_byte)
