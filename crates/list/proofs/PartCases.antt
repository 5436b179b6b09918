-- The parts of the listing by their pieces, each premise in the form in which the code's calls and tests leave it. Assumes nothing.
use Prim.Native.Nat.{ℕ, zero, suc, ◌+◌, ◌-◌, ◌<◌, ◌≤◌}
use mathlib.Core.Path.{◌≡◌, refl, sym, ◌∙◌, ap}
use mathlib.Core.Bool.{Bool, true, false, cond, ◌&&◌}
use mathlib.Core.List.{List, [], ◌∷◌, ◌++◌, append-nil, append_assoc}
use native.Mathlib.Omega.{arith}
use native.Mathlib.Decide.{dec_lt}
use lib.Dec.{eqb}
use lib.ListN.{length, get_or, replicate, length-replicate, get_or-eq_default}
use borrow.Author.Tests.{eqb-true}
use Rattle.wire.specs.Number.{puts}
use Rattle.text.specs.Place.{last_place}
use Rattle.lists.specs.Lists.{tab}
use Rattle.model.specs.Turns.{Turns}
use Rattle.model.specs.Choice.{has}
use Rattle.lists.proofs.Sums.{tab_length, tab_at, tab_same}
use Rattle.choice_map.specs.Choice.{choice_in}
use Rattle.choice_map.proofs.Clean.{zeros_at, zeros_clean}
use Rattle.list_spec.specs.declared.Sums.{Sums}
use Rattle.list_spec.specs.Round.{starts_at, starts_below, round_from, round_of, StartsApart}
use Rattle.list_spec.specs.Text.{line_of, lines_of, heading_of, groomer_text, groomers_from, sums_line, listing_of}
use Rattle.turn.specs.Turn.{shift_minutes}
use Rattle.list.specs.Notes.{note_of, notes_of, note_text, notes_text, NotesBelow, Marked}
use Rattle.instance.specs.declared.columns.Size.{Size}
use Rattle.instance.specs.Columns.{turns_by}
use Rattle.instance.proofs.Rows.{count_is}
use Rattle.list.specs.Ready.{Ready}
use Rattle.list.proofs.Pieces.{first_fits, second_fits, both_place, both_put, piece_fits, rest_place, rest_put}
use Rattle.list.proofs.NoteCases.{false_not_true}

plus_none : (k : ℕ) → k ≡ 0 + k
plus_none k = omega arith

lines_append : (T : Turns) (us vs : List ℕ) → lines_of T (us ++ vs) ≡ lines_of T us ++ lines_of T vs
unfolding lines_of
lines_append T [] vs = refl
lines_append T (u ∷ us) vs = ap (λ l. line_of T u ++ l) (lines_append T us vs) ∙ sym (append_assoc (line_of T u) (lines_of T us) (lines_of T vs))

-- ---- the notes' lines are the round's

note_none : (T : Turns) → note_text T 0 ≡ lines_of T []
unfolding note_text lines_of
note_none T = refl

note_alone : (T : Turns) (u : ℕ) → note_text T (suc u) ≡ lines_of T (u ∷ [])
unfolding note_text lines_of
note_alone T u = sym (append-nil (line_of T u))

module _ (T : Turns) (S : List Bool) (h minute : ℕ) where
  starts_nothing : (i : ℕ) → ((u : ℕ) → u < i → starts_at T S h minute u ≡ false) → starts_below T S h minute i ≡ []
  unfolding starts_below
  starts_nothing zero e = refl
  starts_nothing (suc i) e = rw (e i (omega arith), starts_nothing i (λ u l. e u (omega arith)))

  -- what it means that a turn starts here
  starts_parts : (u : ℕ) → starts_at T S h minute u ≡ true → (has S u ≡ true) × (T.groomer u ≡ h) × (T.start u ≡ minute)
  unfolding starts_at
  starts_parts u e = go (has S u) (eqb (T.groomer u) h) (eqb (T.start u) minute) refl refl refl e
    where
      go : (a b c : Bool) → has S u ≡ a → eqb (T.groomer u) h ≡ b → eqb (T.start u) minute ≡ c → (a && (b && c)) ≡ true → (has S u ≡ true) × (T.groomer u ≡ h) × (T.start u ≡ minute)
      go true true true p q r z = (p, eqb-true (T.groomer u) h q, eqb-true (T.start u) minute r)
      go true true false p q r z = absurd (false_not_true z)
      go true false c p q r z = absurd (false_not_true z)
      go false b c p q r z = absurd (false_not_true z)

  module _ (apart : StartsApart T S) where
    only_one : (i : ℕ) → i < T.count → starts_at T S h minute i ≡ true → starts_below T S h minute i ≡ []
    only_one i l e = starts_nothing i (λ u k. go u k (starts_at T S h minute u) refl)
      where
        go : (u : ℕ) → u < i → (b : Bool) → starts_at T S h minute u ≡ b → starts_at T S h minute u ≡ false
        go u k true f =
            let p = starts_parts u f in
            let q = starts_parts i e in
            let same : u ≡ i = apart u i (omega arith) l p.0 q.0 (p.1 ∙ sym q.1) (p.2 ∙ sym q.2) in
            absurd (omega arith)
        go u k false f = f

    note_lines : (i : ℕ) → i ≤ T.count → note_text T (note_of T S h i minute) ≡ lines_of T (starts_below T S h minute i)
    unfolding note_of starts_below
    note_lines zero l = note_none T
    note_lines (suc i) l = go (starts_at T S h minute i) refl (note_lines i (omega arith))
      where
        go : (b : Bool) → starts_at T S h minute i ≡ b → note_text T (note_of T S h i minute) ≡ lines_of T (starts_below T S h minute i)
            → note_text T (cond b (suc i) (note_of T S h i minute)) ≡ lines_of T (starts_below T S h minute i ++ cond b (i ∷ []) [])
        go true e ih = rw (only_one i (omega arith) e) (note_alone T i)
        go false e ih = rw (append-nil (starts_below T S h minute i)) ih

notes_split : (T : Turns) (d : ℕ) (f : ℕ → ℕ) → notes_text T (tab (suc d) f) ≡ note_text T (f 0) ++ notes_text T (tab d (λ k. f (suc k)))
unfolding notes_text tab
notes_split T d f = refl

notes_nothing : (T : Turns) (f : ℕ → ℕ) → notes_text T (tab 0 f) ≡ lines_of T []
unfolding notes_text tab lines_of
notes_nothing T f = refl

zeros : (k : ℕ) → ◌≡◌ {A = List ℕ} (replicate k 0) (tab k (λ i. 0))
unfolding tab
zeros zero = refl
zeros (suc k) = ap (λ l. 0 ∷ l) (zeros k)

module _ (T : Turns) (S : List Bool) (h : ℕ) where
  module _ (apart : StartsApart T S) where
    notes_lines : (d minute : ℕ) → notes_text T (tab d (λ k. note_of T S h T.count (minute + k))) ≡ lines_of T (round_from T S h d minute)
    unfolding round_from
    notes_lines zero minute = notes_nothing T (λ k. note_of T S h T.count (minute + k))
    notes_lines (suc d) minute =
        let z : minute + 0 ≡ minute = omega arith in
        let first : note_text T (note_of T S h T.count (minute + 0)) ≡ lines_of T (starts_below T S h minute T.count) = rw z (note_lines T S h minute apart T.count (omega arith)) in
        let shift : tab d (λ k. note_of T S h T.count (minute + suc k)) ≡ tab d (λ k. note_of T S h T.count (minute + 1 + k)) = tab_same d _ _ (λ k l. ap (note_of T S h T.count) (omega arith)) in
        notes_split T d (λ k. note_of T S h T.count (minute + k))
        ∙ rw (first, shift) (ap (λ l. lines_of T (starts_below T S h minute T.count) ++ l) (notes_lines d (minute + 1)))
        ∙ sym (lines_append T (starts_below T S h minute T.count) (round_from T S h d (minute + 1)))

    pub round_lines : notes_text T (notes_of T S h T.count) ≡ lines_of T (round_of T S h)
    unfolding notes_of round_of
    round_lines =
        let shift : tab shift_minutes (note_of T S h T.count) ≡ tab shift_minutes (λ k. note_of T S h T.count (0 + k)) = tab_same shift_minutes _ _ (λ k l. ap (note_of T S h T.count) (omega arith)) in
        rw shift (notes_lines shift_minutes 0)

  note_most : (i minute : ℕ) → note_of T S h i minute ≤ i
  unfolding note_of
  note_most zero minute = omega arith
  note_most (suc i) minute = go (starts_at T S h minute i) (note_most i minute)
    where
      go : (b : Bool) → note_of T S h i minute ≤ i → cond b (suc i) (note_of T S h i minute) ≤ suc i
      go true ih = omega arith
      go false ih = omega arith

  notes_zero : replicate shift_minutes 0 ≡ notes_of T S h 0
  unfolding notes_of note_of
  notes_zero = zeros shift_minutes

  pub notes_within : (n : ℕ) → NotesBelow n (notes_of T S h n)
  unfolding NotesBelow notes_of
  notes_within n minute = go (dec_lt minute shift_minutes)
    where
      go : Dec (minute < shift_minutes) → get_or (tab shift_minutes (note_of T S h n)) minute 0 ≤ n
      go (yes l) = rw (tab_at shift_minutes (note_of T S h n) 0 minute l) (note_most n minute)
      go (no l) =
          let past : length (tab shift_minutes (note_of T S h n)) ≤ minute = omega (arith, tab_length shift_minutes (note_of T S h n)) in
          rw (get_or-eq_default (tab shift_minutes (note_of T S h n)) 0 past) (omega arith)

-- ---- a groomer's part

pub marked_none : Marked (replicate 120 0) (replicate 960 0)
marked_none = record { clean = zeros_clean 960 120 refl; size = length-replicate {A = ℕ} 960 0; others = λ k l e. zeros_at 960 k }

module _ (size : Size) (cols map : List ℕ) (h : ℕ) where
  pub notes_none : replicate 960 0 ≡ notes_of (turns_by size cols) (choice_in size.count map) h 0
  notes_none = notes_zero (turns_by size cols) (choice_in size.count map) h

  pub notes_inside : {notes : List ℕ} → notes ≡ notes_of (turns_by size cols) (choice_in size.count map) h size.count → NotesBelow size.count notes
  notes_inside e = rw e (notes_within (turns_by size cols) (choice_in size.count map) h size.count)

  pub head_fits : (at : ℕ) → at + length (groomer_text (turns_by size cols) (choice_in size.count map) h) ≤ last_place → at + length (heading_of h) ≤ last_place
  unfolding groomer_text
  head_fits at m = first_fits (heading_of h) (lines_of (turns_by size cols) (round_of (turns_by size cols) (choice_in size.count map) h)) at m

  module _ (r : Ready size cols map) {notes : List ℕ} (e : notes ≡ notes_of (turns_by size cols) (choice_in size.count map) h size.count) where
    lines_are : notes_text (turns_by size cols) notes ≡ lines_of (turns_by size cols) (round_of (turns_by size cols) (choice_in size.count map) h)
    lines_are = rw e (ap (λ i. notes_text (turns_by size cols) (notes_of (turns_by size cols) (choice_in size.count map) h i)) (sym (count_is size cols)) ∙ round_lines (turns_by size cols) (choice_in size.count map) h r.apart)

    module _ (at : ℕ) {next : ℕ} (f : next ≡ at + length (heading_of h)) where
      pub round_fits : at + length (groomer_text (turns_by size cols) (choice_in size.count map) h) ≤ last_place → next + length (notes_text (turns_by size cols) notes) ≤ last_place
      unfolding groomer_text
      round_fits m = rw lines_are (second_fits (heading_of h) (lines_of (turns_by size cols) (round_of (turns_by size cols) (choice_in size.count map) h)) at f m)

      pub groomer_place : {r : ℕ} → r ≡ next + length (notes_text (turns_by size cols) notes) → r ≡ at + length (groomer_text (turns_by size cols) (choice_in size.count map) h)
      unfolding groomer_text
      groomer_place g = both_place (heading_of h) (lines_of (turns_by size cols) (round_of (turns_by size cols) (choice_in size.count map) h)) at f (rw lines_are at g)

      pub groomer_put : (l : List ℕ) {l₁ l₂ : List ℕ} → l₁ ≡ puts l at (heading_of h) → l₂ ≡ puts l₁ next (notes_text (turns_by size cols) notes) → l₂ ≡ puts l at (groomer_text (turns_by size cols) (choice_in size.count map) h)
      unfolding groomer_text
      groomer_put l p q = both_put (heading_of h) (lines_of (turns_by size cols) (round_of (turns_by size cols) (choice_in size.count map) h)) at f l p (rw lines_are at q)

pub ruleset groomer_cases = (marked_none, notes_none, notes_inside, head_fits, round_fits, groomer_place, groomer_put)

-- ---- all groomers

module _ (T : Turns) (S : List Bool) (stop g : ℕ) where
  module _ (h : g ≤ stop) where
    parts_split : groomers_from T S (stop + 1 - g) g ≡ groomer_text T S g ++ groomers_from T S (stop + 1 - (g + 1)) (g + 1)
    unfolding groomers_from
    parts_split = let q : stop + 1 - g ≡ suc (stop + 1 - (g + 1)) = omega arith in rw q

    module _ (to : ℕ) where
      pub part_fits : {whole : ℕ} → to + length (groomers_from T S (stop + 1 - g) g) ≡ whole → whole ≤ last_place → to + length (groomer_text T S g) ≤ last_place
      part_fits e m = piece_fits (groomers_from T S (stop + 1 - g) g) (groomer_text T S g) (groomers_from T S (stop + 1 - (g + 1)) (g + 1)) parts_split to e m

      pub part_place : {to' whole : ℕ} → to + length (groomers_from T S (stop + 1 - g) g) ≡ whole → to' ≡ to + length (groomer_text T S g) → to' + length (groomers_from T S (stop + 1 - (g + 1)) (g + 1)) ≡ whole
      part_place e p = rest_place (groomers_from T S (stop + 1 - g) g) (groomer_text T S g) (groomers_from T S (stop + 1 - (g + 1)) (g + 1)) parts_split to e p

      pub part_put : (l : List ℕ) {l' z : List ℕ} {to' : ℕ} → puts l to (groomers_from T S (stop + 1 - g) g) ≡ z → l' ≡ puts l to (groomer_text T S g) → to' ≡ to + length (groomer_text T S g) → puts l' to' (groomers_from T S (stop + 1 - (g + 1)) (g + 1)) ≡ z
      part_put l e p q = rest_put (groomers_from T S (stop + 1 - g) g) (groomer_text T S g) (groomers_from T S (stop + 1 - (g + 1)) (g + 1)) parts_split to l e p q

      -- after the last groomer's part nothing is left
      module _ (none : stop ≤ g) where
        empty : groomers_from T S (stop + 1 - (g + 1)) (g + 1) ≡ []
        unfolding groomers_from
        empty = let q : stop + 1 - (g + 1) ≡ 0 = omega arith in rw q

        pub last_end : {to' whole : ℕ} → to + length (groomers_from T S (stop + 1 - g) g) ≡ whole → to' ≡ to + length (groomer_text T S g) → to' ≡ whole
        last_end e p = omega (arith, part_place e p, ap length empty)

        pub last_put : (l : List ℕ) {l' z : List ℕ} {to' : ℕ} → puts l to (groomers_from T S (stop + 1 - g) g) ≡ z → l' ≡ puts l to (groomer_text T S g) → to' ≡ to + length (groomer_text T S g) → l' ≡ z
        last_put l e p q = rw empty at (part_put l e p q)

  module _ (to : ℕ) (h : stop < g) where
    none_left : groomers_from T S (stop + 1 - g) g ≡ []
    unfolding groomers_from
    none_left = let q : stop + 1 - g ≡ 0 = omega arith in rw q

    pub parts_end : {whole : ℕ} → to + length (groomers_from T S (stop + 1 - g) g) ≡ whole → to ≡ whole
    parts_end e = omega (arith, ap length none_left)

    pub parts_done : (l : List ℕ) {z : List ℕ} → puts l to (groomers_from T S (stop + 1 - g) g) ≡ z → l ≡ z
    parts_done l e = rw none_left at e

pub ruleset parts_cases = (part_fits, part_place, part_put, last_end, last_put, parts_end, parts_done)

-- ---- the whole

module _ (groomers : ℕ) (T : Turns) (S : List Bool) (sums : Sums) where
  pub groomers_room : length (listing_of groomers T S sums) ≤ last_place → length (groomers_from T S groomers 1) ≤ last_place
  unfolding listing_of
  groomers_room m = let q : 0 + length (groomers_from T S groomers 1 ++ sums_line sums) ≤ last_place = omega (arith, m) in omega (arith, first_fits (groomers_from T S groomers 1) (sums_line sums) 0 q)

  module _ {last : ℕ} (e : last ≡ length (groomers_from T S groomers 1)) where
    pub last_fits : length (listing_of groomers T S sums) ≤ last_place → last + length (sums_line sums) ≤ last_place
    unfolding listing_of
    last_fits m = let q : 0 + length (groomers_from T S groomers 1 ++ sums_line sums) ≤ last_place = omega (arith, m) in second_fits (groomers_from T S groomers 1) (sums_line sums) 0 (e ∙ plus_none _) q

    pub listing_place : {r : ℕ} → r ≡ last + length (sums_line sums) → r ≡ length (listing_of groomers T S sums)
    unfolding listing_of
    listing_place f = both_place (groomers_from T S groomers 1) (sums_line sums) 0 (e ∙ plus_none _) f ∙ sym (plus_none _)

    pub listing_put : (l : List ℕ) {l₁ l₂ : List ℕ} → l₁ ≡ puts l 0 (groomers_from T S groomers 1) → l₂ ≡ puts l₁ last (sums_line sums) → l₂ ≡ puts l 0 (listing_of groomers T S sums)
    unfolding listing_of
    listing_put l p q = both_put (groomers_from T S groomers 1) (sums_line sums) 0 (e ∙ plus_none _) l p q

pub ruleset listing_cases = (groomers_room, last_fits, listing_place, listing_put)
