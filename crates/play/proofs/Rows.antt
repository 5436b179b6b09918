-- Filling the table, by cases; each premise in the form in which the code's calls and tests leave it. Assumes nothing.
use mathlib.Core.Path.{◌≡◌, refl, sym, ◌∙◌, ap}
use mathlib.Core.Logic.{◌≢◌}
use mathlib.Core.Bool.{Bool, true, false, cond}
use mathlib.Core.List.{List, [], ◌∷◌, ◌++◌}
use Prim.Native.Nat.{ℕ, zero, suc, ◌+◌, ◌-◌, ◌*◌, ◌≤◌, ◌<◌, max, min}
use native.Mathlib.Omega.{arith}
use native.Mathlib.Decide.{dec_lt, ℕ_discrete}
use native.Mathlib.Nat.{le-max_right, max-le, max-eq_right}
use lib.Dec.{ltb, eqb}
use lib.ListN.{length, get_or, set, take, replicate, length-set, length-append, length-replicate}
use lib.Seq.{take-suc, take_all, get_or-set_same, get_or-set_other}
use borrow.Author.Tests.{eq-eqb, ne_eqb, lt-ltb, le-ltb}
use Rattle.lists.specs.Lists.{every}
use Rattle.lists.proofs.Bools.{and_of, every_more, every_fails}
use Rattle.turn.specs.Turn.{shift_minutes}
use Rattle.sheet.specs.Kind.{most_groomers, most_turns}
use Rattle.model.specs.Turns.{Turns}
use Rattle.model.specs.Choice.{has}
use Rattle.choice_map.specs.Choice.{chosen_in, choice_in}
use Rattle.choice_map.proofs.Clean.{choice_has}
use Rattle.instance.specs.declared.columns.Size.{Size}
use Rattle.instance.specs.declared.ways.Row.{Row}
use Rattle.instance.specs.Columns.{row_in, turns_by, Held}
use Rattle.instance.proofs.Rows.{count_is, groomer_at, start_at, end_at}
use Rattle.instance_spec.specs.ByStart.{order_by_start}
use Rattle.instance_spec.proofs.ByStart.{order_length, order_turn}
use Rattle.play_spec.specs.declared.Stint.{Stint}
use Rattle.play_spec.specs.Day.{over_minutes, most_delay, delay_in, delays_fit, stint_of, stints_from, takes, taken_of, day_of}
use Rattle.play_spec.specs.DayTable.{day_rows, day_table_places, cut, stint_place, stint_in, no_stint, cut_stint, stint_row, DelaysFit, Days}
use Rattle.play.specs.Table.{blank_table, count_place, progress_places, with_stint, free_after, stint_by, with_next, after_next, table_with, progress_with, RowsPut, RoomForTurn, Playable}
use Rattle.play_spec.proofs.TableStints.{cut_below, cut_over, cut_most}

-- ---- the leaves

pub cut_least : (x : ℕ) {y : ℕ} → y ≡ min x shift_minutes → y ≡ cut x
cut_least x e = elim (dec_lt x shift_minutes) [ yes l ↦ omega (arith, e, cut_below x l) | no l ↦ omega (arith, e, cut_over x (omega arith)) ]

pub stint_is : (r : Row) (t delay free : ℕ) {b e : ℕ} → b ≡ max r.start free → e ≡ cut (b + (r.end - r.start) + delay) → record { turn = t; begin = b; end = e } ≡ stint_by r t delay free
unfolding stint_by
stint_is r t delay free x y = rw (y, x)

pub stint_put : (table : List ℕ) (g j : ℕ) (s : Stint) → set (set (set table (stint_place g j) s.turn) (stint_place g j + 1) s.begin) (stint_place g j + 2) s.end ≡ with_stint table g j s
unfolding with_stint
stint_put table g j s = refl

pub stint_read : (table : List ℕ) (g j : ℕ) → record { turn = get_or table (stint_place g j) 0; begin = get_or table (stint_place g j + 1) 0; end = get_or table (stint_place g j + 2) 0 } ≡ stint_in table g j
unfolding stint_in
stint_read table g j = refl

pub ruleset stint_cases = (stint_put, stint_read)

pub progress_put : (progress : List ℕ) (g : ℕ) (s : Stint) {c : ℕ} → c ≡ cut (s.end + over_minutes) → set (set progress g c) (count_place g) (get_or progress (count_place g) 0 + 1) ≡ after_next progress g s
unfolding after_next
progress_put progress g s e = rw e

pub ruleset next_cases = (progress_put)

-- ---- the delays' test

pub fit_more : (delays : List ℕ) (i : ℕ) → get_or delays i 0 ≤ most_delay → delays_fit delays i ≡ true → delays_fit delays (i + 1) ≡ true
unfolding delays_fit
fit_more delays i l w = every_more (λ u. ltb (delay_in delays u) (suc most_delay)) i (lt-ltb (delay_in delays i) (suc most_delay) (omega arith)) w

pub fit_none : (delays : List ℕ) → delays_fit delays 0 ≡ true
unfolding delays_fit every
fit_none delays = refl

pub fit_fails : (delays : List ℕ) (i : ℕ) → i < length delays → most_delay < get_or delays i 0 → false ≡ delays_fit delays (length delays)
unfolding delays_fit
fit_fails delays i l k = sym (every_fails (λ u. ltb (delay_in delays u) (suc most_delay)) (length delays) i l (le-ltb (delay_in delays i) (suc most_delay) (omega arith)))

pub ruleset fit_cases = (fit_more, fit_none, fit_fails)

-- ---- a stint more

row_old : (ss : List Stint) (s : Stint) (j : ℕ) → j < length ss → stint_row (ss ++ s ∷ []) j ≡ stint_row ss j
unfolding stint_row
row_old [] s j l = absurd (omega arith)
row_old (x ∷ ss) s zero l = refl
row_old (x ∷ ss) s (suc j) l = row_old ss s j (omega arith)

row_new : (ss : List Stint) (s : Stint) → stint_row (ss ++ s ∷ []) (length ss) ≡ cut_stint s
unfolding stint_row
row_new [] s = refl
row_new (x ∷ ss) s = row_new ss s

row_none : (ss : List Stint) (j : ℕ) → length ss ≤ j → stint_row ss j ≡ no_stint
unfolding stint_row
row_none [] j l = refl
row_none (x ∷ ss) zero l = absurd (omega arith)
row_none (x ∷ ss) (suc j) l = row_none ss j (omega arith)

row_past : (ss : List Stint) (s : Stint) (j : ℕ) → length ss < j → stint_row (ss ++ s ∷ []) j ≡ stint_row ss j
row_past ss s j l = row_none (ss ++ s ∷ []) j (omega (arith, length-append ss (s ∷ []))) ∙ sym (row_none ss j (omega arith))

stints_length : (T : Turns) (delay : ℕ → ℕ) (free : ℕ) (us : List ℕ) → length (stints_from T delay free us) ≡ length us
unfolding stints_from
stints_length T delay free [] = refl
stints_length T delay free (u ∷ us) = ap suc (stints_length T delay ((stint_of T delay free u).end + over_minutes) us)

stints_snoc : (T : Turns) (delay : ℕ → ℕ) (free : ℕ) (us : List ℕ) (u : ℕ) → stints_from T delay free (us ++ u ∷ []) ≡ stints_from T delay free us ++ stint_of T delay (free_after T delay free us) u ∷ []
unfolding stints_from free_after
stints_snoc T delay free [] u = refl
stints_snoc T delay free (v ∷ us) u = ap (λ (ss : List Stint). stint_of T delay free v ∷ ss) (stints_snoc T delay ((stint_of T delay free v).end + over_minutes) us u)

free_snoc : (T : Turns) (delay : ℕ → ℕ) (free : ℕ) (us : List ℕ) (u : ℕ) → free_after T delay free (us ++ u ∷ []) ≡ (stint_of T delay (free_after T delay free us) u).end + over_minutes
unfolding free_after
free_snoc T delay free [] u = refl
free_snoc T delay free (v ∷ us) u = free_snoc T delay ((stint_of T delay free v).end + over_minutes) us u

module _ (T : Turns) (S : List Bool) (h : ℕ) where
  taken_snoc : (us : List ℕ) (u : ℕ) → taken_of T S h (us ++ u ∷ []) ≡ taken_of T S h us ++ cond (takes T S h u) (u ∷ []) []
  unfolding taken_of
  taken_snoc [] u = end_nil (cond (takes T S h u) (u ∷ []) [])
    where
      end_nil : (xs : List ℕ) → xs ++ [] ≡ xs
      end_nil [] = refl
      end_nil (x ∷ xs) = ap (λ (ys : List ℕ). x ∷ ys) (end_nil xs)
  taken_snoc (v ∷ us) u = go (takes T S h v) (taken_snoc us u)
    where
      go : (b : Bool) → taken_of T S h (us ++ u ∷ []) ≡ taken_of T S h us ++ cond (takes T S h u) (u ∷ []) [] → cond b (v ∷ []) [] ++ taken_of T S h (us ++ u ∷ []) ≡ (cond b (v ∷ []) [] ++ taken_of T S h us) ++ cond (takes T S h u) (u ∷ []) []
      go true ih = ap (λ (ys : List ℕ). v ∷ ys) ih
      go false ih = ih

  taken_same : (us : List ℕ) (u : ℕ) → takes T S h u ≡ false → taken_of T S h (us ++ u ∷ []) ≡ taken_of T S h us
  taken_same us u e = taken_snoc us u ∙ rw e (end_nil (taken_of T S h us))
    where
      end_nil : (xs : List ℕ) → xs ++ [] ≡ xs
      end_nil [] = refl
      end_nil (x ∷ xs) = ap (λ (ys : List ℕ). x ∷ ys) (end_nil xs)

  taken_next : (us : List ℕ) (u : ℕ) → takes T S h u ≡ true → taken_of T S h (us ++ u ∷ []) ≡ taken_of T S h us ++ u ∷ []
  taken_next us u e = taken_snoc us u ∙ rw e

-- ---- a stint from a cut-off minute on

cut_add : (x y : ℕ) → cut (cut x + y) ≡ cut (x + y)
cut_add x y = go (dec_lt x shift_minutes)
  where
    go : Dec (x < shift_minutes) → cut (cut x + y) ≡ cut (x + y)
    go (yes l) = rw (cut_below x l)
    go (no l) = rw (cut_over x (omega arith), cut_over (shift_minutes + y) (omega arith), cut_over (x + y) (omega arith))

cut_max : (x y : ℕ) → x < shift_minutes → max x (cut y) ≡ cut (max x y)
cut_max x y l = go (dec_lt y shift_minutes)
  where
    go : Dec (y < shift_minutes) → max x (cut y) ≡ cut (max x y)
    go (yes k) = let m : max x y < shift_minutes = below (max-le {k = shift_minutes - 1} (omega arith) (omega arith)) in rw (cut_below y k, cut_below (max x y) m)
      where
        below : max x y ≤ shift_minutes - 1 → max x y < shift_minutes
        below z = omega (arith, z)
    go (no k) = let m : shift_minutes ≤ max x y = omega (arith, le-max_right x y) in rw (cut_over y (omega arith), cut_over (max x y) m) (max-eq_right (omega arith))

cut_end : (s : Stint) → (cut_stint s).end ≡ cut s.end
unfolding cut_stint
cut_end s = refl

stint_cut : (T : Turns) (delay : ℕ → ℕ) (free u : ℕ) (r : Row) → r.start ≡ T.start u → r.end ≡ T.end u → T.start u < shift_minutes → stint_by r u (delay u) (cut free) ≡ cut_stint (stint_of T delay free u)
unfolding stint_by cut_stint stint_of
stint_cut T delay free u r a b l =
    let q : max r.start (cut free) ≡ cut (max (T.start u) free) = ap (λ (x : ℕ). max x (cut free)) a ∙ cut_max (T.start u) free l in
    let m = max (T.start u) free in
    let n = T.end u - T.start u in
    let e : cut (cut m + n + delay u) ≡ cut (m + n + delay u) =
    let x : cut m + n + delay u ≡ cut m + (n + delay u) = omega arith in
    let y : m + n + delay u ≡ m + (n + delay u) = omega arith in
    ap cut x ∙ cut_add m (n + delay u) ∙ ap cut (sym y) in
    rw (q, a, b, e)

-- ---- what stands in a table after a stint is put

three_other : (l : List ℕ) (a k x y z : ℕ) → k ≢ a → k ≢ a + 1 → k ≢ a + 2 → get_or (set (set (set l a x) (a + 1) y) (a + 2) z) k 0 ≡ get_or l k 0
three_other l a k x y z p q r =
    get_or-set_other (set (set l a x) (a + 1) y) (a + 2) k z 0 r ∙ get_or-set_other (set l a x) (a + 1) k y 0 q ∙ get_or-set_other l a k x 0 p

module _ (l : List ℕ) (a x y z : ℕ) (h : a + 2 < length l) where
  three_1 : get_or (set (set (set l a x) (a + 1) y) (a + 2) z) a 0 ≡ x
  three_1 = get_or-set_other (set (set l a x) (a + 1) y) (a + 2) a z 0 (λ e. omega (arith, e)) ∙ get_or-set_other (set l a x) (a + 1) a y 0 (λ e. omega (arith, e)) ∙ get_or-set_same l a x 0 (omega arith)

  three_2 : get_or (set (set (set l a x) (a + 1) y) (a + 2) z) (a + 1) 0 ≡ y
  three_2 = get_or-set_other (set (set l a x) (a + 1) y) (a + 2) (a + 1) z 0 (λ e. omega (arith, e)) ∙ get_or-set_same (set l a x) (a + 1) y 0 (rw (length-set l a x) (omega arith))

  three_3 : get_or (set (set (set l a x) (a + 1) y) (a + 2) z) (a + 2) 0 ≡ z
  three_3 = get_or-set_same (set (set l a x) (a + 1) y) (a + 2) z 0 (rw (length-set (set l a x) (a + 1) y, length-set l a x) h)

stint_same : (table : List ℕ) (g j : ℕ) (s : Stint) → length table ≡ day_table_places → g < most_groomers → j < day_rows → stint_in (with_stint table g j s) g j ≡ s
unfolding stint_in with_stint
stint_same table g j s e l k =
    let h : stint_place g j + 2 < length table = omega arith in
    λ i. record { turn = three_1 table (stint_place g j) s.turn s.begin s.end h i; begin = three_2 table (stint_place g j) s.turn s.begin s.end h i; end = three_3 table (stint_place g j) s.turn s.begin s.end h i }

stint_other : (table : List ℕ) (g j g' j' : ℕ) (s : Stint) → ((c d : ℕ) → c < 3 → d < 3 → stint_place g' j' + c ≡ stint_place g j + d → ⊥) → stint_in (with_stint table g j s) g' j' ≡ stint_in table g' j'
unfolding stint_in with_stint
stint_other table g j g' j' s far =
    let a = stint_place g j in
    let k = stint_place g' j' in
    let one = three_other table a k s.turn s.begin s.end (λ e. far 0 0 (omega arith) (omega arith) (omega (arith, e))) (λ e. far 0 1 (omega arith) (omega arith) (omega (arith, e))) (λ e. far 0 2 (omega arith) (omega arith) (omega (arith, e))) in
    let two = three_other table a (k + 1) s.turn s.begin s.end (λ e. far 1 0 (omega arith) (omega arith) (omega (arith, e))) (λ e. far 1 1 (omega arith) (omega arith) (omega (arith, e))) (λ e. far 1 2 (omega arith) (omega arith) (omega (arith, e))) in
    let three = three_other table a (k + 2) s.turn s.begin s.end (λ e. far 2 0 (omega arith) (omega arith) (omega (arith, e))) (λ e. far 2 1 (omega arith) (omega arith) (omega (arith, e))) (λ e. far 2 2 (omega arith) (omega arith) (omega (arith, e))) in
    λ i. record { turn = one i; begin = two i; end = three i }

-- ---- a turn more

module _ (T : Turns) (S : List Bool) (delay : ℕ → ℕ) (us : List ℕ) (u : ℕ) (table progress : List ℕ) (w : RowsPut T S delay us table progress) where
  -- a turn that no groomer takes
  rows_same : ((g : ℕ) → g < most_groomers → takes T S (suc g) u ≡ false) → RowsPut T S delay (us ++ u ∷ []) table progress
  rows_same none = record {
    places = w.places;
    progress_size = w.progress_size;
    rows = λ g j l k. rw (taken_same T S (suc g) us u (none g l)) (w.rows g j l k);
    free = λ g l. rw (taken_same T S (suc g) us u (none g l)) (w.free g l);
    many = λ g l. rw (taken_same T S (suc g) us u (none g l)) (w.many g l);
  }

  -- a turn that groomer g takes
  module _ (g : ℕ) (l : g < most_groomers) (its : takes T S (suc g) u ≡ true) (others : (k : ℕ) → k < most_groomers → k ≢ g → takes T S (suc k) u ≡ false) (s : Stint)
      (s_is : s ≡ cut_stint (stint_of T delay (free_after T delay 0 (taken_of T S (suc g) us)) u)) (room : get_or progress (count_place g) 0 < day_rows) where
    abbrev old : List Stint
    old = stints_from T delay 0 (taken_of T S (suc g) us)

    here : stints_from T delay 0 (taken_of T S (suc g) (us ++ u ∷ [])) ≡ old ++ stint_of T delay (free_after T delay 0 (taken_of T S (suc g) us)) u ∷ []
    here = ap (stints_from T delay 0) (taken_next T S (suc g) us u its) ∙ stints_snoc T delay 0 (taken_of T S (suc g) us) u

    count : get_or progress (count_place g) 0 ≡ length old
    count = w.many g l ∙ sym (stints_length T delay 0 (taken_of T S (suc g) us))

    next_places : length (with_next table progress g s) ≡ day_table_places
    unfolding with_stint
    next_places = simp length-set w.places

    -- the rows of others, and the groomer's own but the next one, stay
    row_stays : (k j : ℕ) → j < day_rows → (k ≡ g → j ≡ get_or progress (count_place g) 0 → ⊥) → stint_in (with_next table progress g s) k j ≡ stint_in table k j
    row_stays k j m d = stint_other table g n k j s (λ c f p q z. apart (ℕ_discrete k g) c f p q z)
      where
        n : ℕ
        n = get_or progress (count_place g) 0

        apart : Dec (k ≡ g) → (c f : ℕ) → c < 3 → f < 3 → stint_place k j + c ≡ stint_place g n + f → ⊥
        apart (yes y) c f p q z = d y (let v : j * 3 + c ≡ n * 3 + f = omega (arith, z, y) in omega (arith, v, p, q))
        apart (no y) c f p q z = omega (arith, room, y, p, q, z, m)

    row_there : stint_in (with_next table progress g s) g (get_or progress (count_place g) 0) ≡ s
    row_there = stint_same table g (get_or progress (count_place g) 0) s w.places l room

    rows_then : (k j : ℕ) → k < most_groomers → j < day_rows → stint_in (with_next table progress g s) k j ≡ stint_row (stints_from T delay 0 (taken_of T S (suc k) (us ++ u ∷ []))) j
    rows_then k j a b = go (ℕ_discrete k g)
      where
        own : Dec (j < length old) → Dec (j ≡ length old) → stint_in (with_next table progress g s) g j ≡ stint_row (old ++ stint_of T delay (free_after T delay 0 (taken_of T S (suc g) us)) u ∷ []) j
        own (yes x) y = row_stays g j b (λ _ q. omega (arith, q, count)) ∙ w.rows g j l b ∙ sym (row_old old _ j x)
        own (no x) (yes y) =
            let q : j ≡ get_or progress (count_place g) 0 = y ∙ sym count in
            ap (stint_in (with_next table progress g s) g) q ∙ row_there ∙ s_is ∙ sym (row_new old _) ∙ ap (stint_row (old ++ stint_of T delay (free_after T delay 0 (taken_of T S (suc g) us)) u ∷ [])) (sym y)
        own (no x) (no y) = row_stays g j b (λ _ q. y (q ∙ count)) ∙ w.rows g j l b ∙ sym (row_past old _ j (omega arith))

        go : Dec (k ≡ g) → stint_in (with_next table progress g s) k j ≡ stint_row (stints_from T delay 0 (taken_of T S (suc k) (us ++ u ∷ []))) j
        go (yes e) = rw (e, here) (own (dec_lt j (length old)) (ℕ_discrete j (length old)))
        go (no e) = rw (taken_same T S (suc k) us u (others k a e)) (row_stays k j b (λ y _. e y) ∙ w.rows k j a b)

    free_then : (k : ℕ) → k < most_groomers → get_or (after_next progress g s) k 0 ≡ cut (free_after T delay 0 (taken_of T S (suc k) (us ++ u ∷ [])))
    unfolding after_next
    free_then k a = get_or-set_other (set progress g (cut (s.end + over_minutes))) (count_place g) k (get_or progress (count_place g) 0 + 1) 0 (λ e. omega (arith, e)) ∙ go (ℕ_discrete k g)
      where
        f : ℕ
        f = free_after T delay 0 (taken_of T S (suc g) us)

        ended : cut (s.end + over_minutes) ≡ cut ((stint_of T delay f u).end + over_minutes)
        ended = ap (λ (x : Stint). cut (x.end + over_minutes)) s_is ∙ ap (λ (y : ℕ). cut (y + over_minutes)) (cut_end (stint_of T delay f u)) ∙ cut_add (stint_of T delay f u).end over_minutes

        go : Dec (k ≡ g) → get_or (set progress g (cut (s.end + over_minutes))) k 0 ≡ cut (free_after T delay 0 (taken_of T S (suc k) (us ++ u ∷ [])))
        go (yes e) = rw e (get_or-set_same progress g (cut (s.end + over_minutes)) 0 (omega (arith, w.progress_size)) ∙ ended ∙ ap cut (sym (free_snoc T delay 0 (taken_of T S (suc g) us) u) ∙ ap (free_after T delay 0) (sym (taken_next T S (suc g) us u its))))
        go (no e) = get_or-set_other progress g k (cut (s.end + over_minutes)) 0 e ∙ rw (taken_same T S (suc k) us u (others k a e)) (w.free k a)

    count_then : (k : ℕ) → k < most_groomers → get_or (after_next progress g s) (count_place k) 0 ≡ length (taken_of T S (suc k) (us ++ u ∷ []))
    unfolding after_next
    count_then k a = go (ℕ_discrete k g)
      where
        c : ℕ
        c = get_or progress (count_place g) 0 + 1

        inner : List ℕ
        inner = set progress g (cut (s.end + over_minutes))

        go : Dec (k ≡ g) → get_or (set inner (count_place g) c) (count_place k) 0 ≡ length (taken_of T S (suc k) (us ++ u ∷ []))
        go (yes e) =
            let v : get_or (set inner (count_place g) c) (count_place g) 0 ≡ c = get_or-set_same inner (count_place g) c 0 (rw (length-set progress g (cut (s.end + over_minutes))) (omega (arith, w.progress_size))) in
            let n : length (taken_of T S (suc g) (us ++ u ∷ [])) ≡ length (taken_of T S (suc g) us) + 1 = ap length (taken_next T S (suc g) us u its) ∙ length-append (taken_of T S (suc g) us) (u ∷ []) in
            rw e (omega (arith, v, n, w.many g l))
        go (no e) =
            let v : get_or (set inner (count_place g) c) (count_place k) 0 ≡ get_or progress (count_place k) 0 = get_or-set_other inner (count_place g) (count_place k) c 0 (λ q. e (omega (arith, q))) ∙ get_or-set_other progress g (count_place k) (cut (s.end + over_minutes)) 0 (λ q. omega (arith, q)) in
            let n : length (taken_of T S (suc k) (us ++ u ∷ [])) ≡ length (taken_of T S (suc k) us) = ap length (taken_same T S (suc k) us u (others k a e)) in
            omega (arith, v, n, w.many k a)

    progress_length : length (after_next progress g s) ≡ progress_places
    unfolding after_next
    progress_length = simp length-set w.progress_size

    rows_next : RowsPut T S delay (us ++ u ∷ []) (with_next table progress g s) (after_next progress g s)
    rows_next = record {
      places = next_places;
      progress_size = progress_length;
      rows = rows_then;
      free = free_then;
      many = count_then;
    }

-- ---- which groomer takes a turn

module _ (T : Turns) (S : List Bool) (u : ℕ) where
  not_chosen : has S u ≡ false → (h : ℕ) → takes T S h u ≡ false
  unfolding takes
  not_chosen e h = rw e

  takes_own : has S u ≡ true → (h : ℕ) → T.groomer u ≡ h → takes T S h u ≡ true
  unfolding takes
  takes_own e h q = and_of (has S u) (eqb (T.groomer u) h) e (eq-eqb (T.groomer u) h q)

  takes_not : has S u ≡ true → (h : ℕ) → (T.groomer u ≡ h → ⊥) → takes T S h u ≡ false
  unfolding takes
  takes_not e h q = rw (e, ne_eqb (T.groomer u) h q)

-- ---- one turn of the loop

module _ (r' : Row) (u delay : ℕ) (table progress : List ℕ) where
  pub skip_table : (b : Bool) {c : Bool} → c ≡ b → c ≡ false → table ≡ table_with b r' u delay table progress
  unfolding table_with
  skip_table b x e = let q : b ≡ false = sym x ∙ e in rw q

  pub skip_progress : (b : Bool) {c : Bool} → c ≡ b → c ≡ false → progress ≡ progress_with b r' u delay progress
  unfolding progress_with
  skip_progress b x e = let q : b ≡ false = sym x ∙ e in rw q

  pub put_table : (b : Bool) {r : Row} {c : Bool} {table' : List ℕ} → c ≡ b → c ≡ true → r ≡ r' → table' ≡ with_next table progress (r.groomer - 1) (stint_by r u delay (get_or progress (r.groomer - 1) 0)) → table' ≡ table_with b r' u delay table progress
  unfolding table_with
  put_table b x e q g = let y : b ≡ true = sym x ∙ e in rw (y, ← q) g

  pub put_progress : (b : Bool) {r : Row} {c : Bool} {progress' : List ℕ} → c ≡ b → c ≡ true → r ≡ r' → progress' ≡ after_next progress (r.groomer - 1) (stint_by r u delay (get_or progress (r.groomer - 1) 0)) → progress' ≡ progress_with b r' u delay progress
  unfolding progress_with
  put_progress b x e q g = let y : b ≡ true = sym x ∙ e in rw (y, ← q) g

pub row_inside : {r : Row} (r' : Row) → r ≡ r' → 1 ≤ r'.groomer → r'.groomer ≤ most_groomers → r.groomer - 1 < most_groomers
row_inside {r} r' e l k = let q : r.groomer ≡ r'.groomer = ap (λ (x : Row). x.groomer) e in omega (arith, q, l, k)

pub row_lengths : {r : Row} (r' : Row) → r ≡ r' → r'.start < r'.end → r.start < r.end
row_lengths r' e l = rw e l

pub row_ends : {r : Row} (r' : Row) → r ≡ r' → r'.end ≤ shift_minutes → r.end ≤ shift_minutes
row_ends r' e l = rw e l

pub ruleset chosen_cases = (skip_table, skip_progress, put_table, put_progress, row_inside, row_lengths, row_ends)

-- ---- the loop

module _ (p : Size) (cols map delays order : List ℕ) (h : Held p cols) (o : order ≡ order_by_start (turns_by p cols)) (f : DelaysFit delays p.count) (b : p.count ≤ 8 * length map) (playable : Playable (turns_by p cols) (choice_in p.count map)) where
  abbrev T : Turns
  T = turns_by p cols

  abbrev S : List Bool
  S = choice_in p.count map

  long : length order ≡ p.count
  long = ap length o ∙ order_length T ∙ count_is p cols

  module _ (i : ℕ) (l : i < length order) where
    abbrev u : ℕ
    u = get_or order i 0

    inside : u < p.count
    inside = let e : get_or order i 0 ≡ get_or (order_by_start T) i 0 = ap (λ (xs : List ℕ). get_or xs i 0) o in omega (arith, e, order_turn T i (omega (arith, long, count_is p cols)), count_is p cols)

    pub loop_turn : get_or order i 0 < most_turns
    loop_turn = omega (arith, inside, h.few)

    pub loop_bit : get_or order i 0 < 8 * length map
    loop_bit = omega (arith, inside, b)

    pub loop_delays : get_or order i 0 < length delays
    loop_delays = omega (arith, inside, f.0)

    pub loop_delay : delay_in delays (get_or order i 0) ≤ most_delay
    loop_delay = f.1 u inside

    pub loop_starts : (row_in cols (get_or order i 0)).start < (row_in cols (get_or order i 0)).end
    loop_starts = omega (arith, start_at p cols u inside refl, end_at p cols u inside refl, h.starts u inside)

    pub loop_ends : (row_in cols (get_or order i 0)).end ≤ shift_minutes
    loop_ends = omega (arith, end_at p cols u inside refl, h.ends u inside)

    pub loop_least : 1 ≤ (row_in cols (get_or order i 0)).groomer
    loop_least = omega (arith, groomer_at p cols u inside refl, (playable.known.each u (omega (arith, inside, count_is p cols))).0)

    pub loop_known : (row_in cols (get_or order i 0)).groomer ≤ most_groomers
    loop_known = omega (arith, groomer_at p cols u inside refl, (playable.known.each u (omega (arith, inside, count_is p cols))).1)

    module _ (table progress : List ℕ) (w : RowsPut T S (delay_in delays) (take i order) table progress) where
      row_free : (g : ℕ) → g < most_groomers → get_or progress (count_place g) 0 < day_rows
      row_free g k = let e : length (taken_of T S (suc g) (take i order)) ≡ length (taken_of T S (suc g) (take i (order_by_start T))) = ap (λ (xs : List ℕ). length (taken_of T S (suc g) (take i xs))) o in omega (arith, w.many g k, e, playable.rows g i)

      pub loop_places : length table ≡ day_table_places
      loop_places = w.places

      pub loop_open : RoomForTurn progress
      loop_open = record {
        progress_size = w.progress_size;
        free = λ g k. rw (w.free g k) (cut_most (free_after T (delay_in delays) 0 (taken_of T S (suc g) (take i order))));
        few = row_free;
      }

      taken : take (i + 1) order ≡ take i order ++ u ∷ []
      taken = let q : i + 1 ≡ suc i = omega arith in rw q (take-suc order i 0 l)

      is_has : has S u ≡ chosen_in map u
      is_has = choice_has p.count map u inside

      grown : (c : Bool) → chosen_in map u ≡ c → RowsPut T S (delay_in delays) (take i order ++ u ∷ []) (cond c (with_next table progress ((row_in cols u).groomer - 1) (stint_by (row_in cols u) u (delay_in delays u) (get_or progress ((row_in cols u).groomer - 1) 0))) table) (cond c (after_next progress ((row_in cols u).groomer - 1) (stint_by (row_in cols u) u (delay_in delays u) (get_or progress ((row_in cols u).groomer - 1) 0))) progress)
      grown false e = rows_same T S (delay_in delays) (take i order) u table progress w (λ g _. not_chosen T S u (is_has ∙ e) (suc g))
      grown true e =
          let r = row_in cols u in
          let g = r.groomer - 1 in
          let x : g < most_groomers = omega (arith, loop_least, loop_known) in
          let its : T.groomer u ≡ suc g = sym (groomer_at p cols u inside refl) ∙ back r.groomer loop_least in
          let s_is : stint_by r u (delay_in delays u) (get_or progress g 0) ≡ cut_stint (stint_of T (delay_in delays) (free_after T (delay_in delays) 0 (taken_of T S (suc g) (take i order))) u) =
          ap (stint_by r u (delay_in delays u)) (w.free g x) ∙ stint_cut T (delay_in delays) (free_after T (delay_in delays) 0 (taken_of T S (suc g) (take i order))) u r (start_at p cols u inside refl) (end_at p cols u inside refl) (omega (arith, h.starts u inside, h.ends u inside)) in
          rows_next T S (delay_in delays) (take i order) u table progress w g x (takes_own T S u (is_has ∙ e) (suc g) its) (λ k y d. takes_not T S u (is_has ∙ e) (suc k) (λ z. d (same (sym z ∙ its)))) (stint_by r u (delay_in delays u) (get_or progress g 0)) s_is (row_free g x)
        where
          back : (x : ℕ) → 1 ≤ x → x ≡ suc (x - 1)
          back x z = omega arith

          same : {x y : ℕ} → suc x ≡ suc y → x ≡ y
          same z = omega (arith, z)

      pub loop_next : {table' progress' : List ℕ} → table' ≡ table_with (chosen_in map (get_or order i 0)) (row_in cols (get_or order i 0)) (get_or order i 0) (delay_in delays (get_or order i 0)) table progress
          → progress' ≡ progress_with (chosen_in map (get_or order i 0)) (row_in cols (get_or order i 0)) (get_or order i 0) (delay_in delays (get_or order i 0)) progress → RowsPut T S (delay_in delays) (take (i + 1) order) table' progress'
      unfolding table_with progress_with
      loop_next x y = rw (x, y, taken) (grown (chosen_in map u) refl)

  pub loop_done : (i : ℕ) (table progress : List ℕ) → length order ≤ i → RowsPut T S (delay_in delays) (take i order) table progress → Days T S (delay_in delays) table
  unfolding day_of
  loop_done i table progress l w =
      let e : take i order ≡ order_by_start T = take_all i order l ∙ o in
      record { places = w.places; rows = λ g j x y. w.rows g j x y ∙ ap (λ (us : List ℕ). stint_row (stints_from T (delay_in delays) 0 (taken_of T S (suc g) us)) j) e }

filled_at : (n x i : ℕ) → i < n → get_or (replicate n x) i 0 ≡ x
filled_at zero x i l = absurd (omega arith)
filled_at (suc n) x zero l = refl
filled_at (suc n) x (suc i) l = filled_at n x i (omega arith)

blank_row : (T : Turns) (S : List Bool) (delay : ℕ → ℕ) (g j : ℕ) → g < most_groomers → j < day_rows → stint_in (replicate day_table_places shift_minutes) g j ≡ stint_row (stints_from T delay 0 (taken_of T S (suc g) [])) j
unfolding taken_of stints_from stint_row no_stint stint_in
blank_row T S delay g j l k =
    λ i. record { turn = filled_at day_table_places shift_minutes (stint_place g j) (omega arith) i; begin = filled_at day_table_places shift_minutes (stint_place g j + 1) (omega arith) i; end = filled_at day_table_places shift_minutes (stint_place g j + 2) (omega arith) i }

blank_free : (T : Turns) (S : List Bool) (delay : ℕ → ℕ) (g : ℕ) → 0 ≡ cut (free_after T delay 0 (taken_of T S (suc g) []))
unfolding taken_of free_after cut
blank_free T S delay g = refl

blank_count : (T : Turns) (S : List Bool) (delay : ℕ → ℕ) (g : ℕ) → 0 ≡ length (taken_of T S (suc g) [])
unfolding taken_of
blank_count T S delay g = refl

pub loop_first : (T : Turns) (S : List Bool) (delay : ℕ → ℕ) (order table : List ℕ) → table ≡ blank_table → RowsPut T S delay (take 0 order) table (replicate {A = ℕ} progress_places 0)
unfolding blank_table
loop_first T S delay order table e = rw e (record {
  places = length-replicate {A = ℕ} day_table_places shift_minutes;
  progress_size = length-replicate {A = ℕ} progress_places 0;
  rows = λ g j l k. blank_row T S delay g j l k;
  free = λ g l. filled_at progress_places 0 g (omega arith) ∙ blank_free T S delay g;
  many = λ g l. filled_at progress_places 0 (count_place g) (omega arith) ∙ blank_count T S delay g;
})

pub blank_places : {table : List ℕ} → table ≡ blank_table → length table ≡ day_table_places
unfolding blank_table
blank_places e = ap length e ∙ length-replicate {A = ℕ} day_table_places shift_minutes

pub ruleset loop_cases = (loop_first, loop_turn, loop_bit, loop_delays, loop_delay, loop_starts, loop_ends, loop_least, loop_known, loop_places, loop_open, loop_next, loop_done)

pub blank_made : replicate {A = ℕ} day_table_places shift_minutes ≡ blank_table
unfolding blank_table
blank_made = refl

pub ruleset cut_cases = (cut_least)

pub ruleset by_cases = (stint_is)
