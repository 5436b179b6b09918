-- The standings after each minute: what a step of the table makes is what the day says; all minutes of the list. Assumes nothing.
use mathlib.Core.Path.{◌≡◌, refl, sym, ◌∙◌, ap}
use mathlib.Core.Bool.{Bool, cond}
use mathlib.Core.List.{List, [], ◌∷◌, ◌++◌}
use Prim.Native.Nat.{ℕ, zero, suc, ◌+◌, ◌-◌, ◌≤◌, ◌<◌, ◌/◌, ◌%◌}
use native.Mathlib.Omega.{arith}
use native.Mathlib.Decide.{dec_lt}
use lib.Dec.{eqb}
use lib.ListN.{length, get_or, set, drop, length-append, length-drop}
use lib.Seq.{get_or-set_other, get_or-append-add, get_or-drop, ext_get_or}
use Rattle.turn.specs.Turn.{shift_minutes}
use Rattle.sheet.specs.Kind.{most_groomers}
use Rattle.lists.specs.Lists.{tab}
use Rattle.lists.proofs.Sums.{tab_length, tab_at}
use Rattle.model.specs.Turns.{Turns}
use Rattle.play_spec.specs.declared.Stint.{Stint}
use Rattle.play_spec.specs.Day.{over_minutes, day_of, doing_at}
use Rattle.play_spec.specs.DayTable.{day_rows, day_places, day_table_places, row_size, stint_place, stint_in, stint_row, doing_by, Days}
use Rattle.play_spec.proofs.TableStints.{row_says}
use Rattle.play_spec.specs.declared.Standing.{Standing}
use Rattle.play_spec.specs.Standing.{fresh_of, moved_by, standing_after}
use Rattle.play_spec.proofs.Stints.{driven, day_laid}
use Rattle.play_spec.proofs.Standings.{driving_driven, counts_make}
use Rattle.play_spec.specs.Minutes.{begun_of, step_of, minute_of, minutes_from}
use Rattle.play_spec.proofs.Moves.{begun_first, begun_later, length_minute, minute_at}

pub append_left : (xs ys : List Standing) (i : ℕ) (d : Standing) → i < length xs → get_or (xs ++ ys) i d ≡ get_or xs i d
append_left [] ys i d l = absurd (omega arith)
append_left (x ∷ xs) ys zero d l = refl
append_left (x ∷ xs) ys (suc i) d l = append_left xs ys i d (omega arith)

-- ---- a minute by the table

module _ (T : Turns) (S : List Bool) (delay : ℕ → ℕ) (table : List ℕ) (w : Days T S delay table) where
  abbrev its : ℕ → List Stint
  its g = day_of T S delay (suc g)

  step_says : (s : Standing) (g m : ℕ) → g < most_groomers → m < shift_minutes → begun_of s m ≡ standing_after (its g) m → step_of s table g m ≡ standing_after (its g) (suc m)
  unfolding step_of standing_after
  step_says s g m l k e =
      let day = its g in
      let d : (begun_of s m).driving ≡ driven day m = ap (λ (x : Standing). x.driving) e ∙ driving_driven day m in
      let few : (begun_of s m).driving ≤ m = omega (arith, ap (λ (x : Standing). x.driving) e, counts_make day m) in
      let r : stint_in table g ((begun_of s m).driving / over_minutes) ≡ stint_row day (driven day m / over_minutes) = w.rows g ((begun_of s m).driving / over_minutes) l (omega (arith, few)) ∙ ap (λ (x : ℕ). stint_row day (x / over_minutes)) d in
      let says : doing_by (stint_in table g ((begun_of s m).driving / over_minutes)) m ≡ doing_at day m = ap (λ (x : Stint). doing_by x m) r ∙ row_says (day_laid T S delay (suc g)) m k in
      λ i. moved_by (e i) (says i)

  -- ---- all minutes of the list

  -- before minute m: each of n groomers starts from what its day says, and all after them is as it was
  record Begun (n : ℕ) (ys : List Standing) (m : ℕ) (l : List Standing) : Type 0 where
    long : length l ≡ length ys
    starts : (g : ℕ) → g < n → begun_of (get_or l g fresh_of) m ≡ standing_after (its g) m
    others : (j : ℕ) → n ≤ j → get_or l j fresh_of ≡ get_or ys j fresh_of

  minute_past : (k g : ℕ) (l : List Standing) (m j : ℕ) → g + k ≤ j → get_or (minute_of k g l table m) j fresh_of ≡ get_or l j fresh_of
  unfolding minute_of
  minute_past zero g l m j h = refl
  minute_past (suc k) g l m j h =
      minute_past k (g + 1) (set l g (step_of (get_or l g fresh_of) table g m)) m j (omega arith) ∙ get_or-set_other l g j (step_of (get_or l g fresh_of) table g m) fresh_of (λ e. omega (arith, e))

  module _ (n : ℕ) (few : n ≤ most_groomers) (ys : List Standing) (room : n ≤ length ys) where
    begun_next : (m : ℕ) (l : List Standing) → m < shift_minutes → Begun n ys m l → Begun n ys (m + 1) (minute_of n 0 l table m)
    begun_next m l k b =
        record {
          long = length_minute n 0 l table m ∙ b.long;
          starts = λ g x.
              let at : get_or (minute_of n 0 l table m) g fresh_of ≡ step_of (get_or l g fresh_of) table g m = minute_at n 0 l table m g (omega arith) (omega arith) (omega (arith, b.long)) in
              let q : m + 1 ≡ suc m = omega arith in
              sym (begun_later (get_or (minute_of n 0 l table m) g fresh_of) (m + 1) (λ z. omega (arith, z))) ∙ at ∙ step_says (get_or l g fresh_of) g m (omega arith) k (b.starts g x) ∙ ap (standing_after (its g)) (sym q);
          others = λ j x. minute_past n 0 l m j (omega arith) ∙ b.others j x;
        }

    begun_all : (k m : ℕ) (l : List Standing) → m + k ≤ shift_minutes → Begun n ys m l → Begun n ys (m + k) (minutes_from k m n l table)
    unfolding minutes_from
    begun_all zero m l h b = let q : m + 0 ≡ m = omega arith in rw q b
    begun_all (suc k) m l h b = let q : m + suc k ≡ m + 1 + k = omega arith in rw q (begun_all k (m + 1) (minute_of n 0 l table m) (omega arith) (begun_next m l (omega arith) b))

    begun_start : Begun n ys 0 ys
    unfolding standing_after
    begun_start = record { long = refl; starts = λ g x. sym (begun_first (get_or ys g fresh_of) 0 refl); others = λ j x. refl }

    after : (k : ℕ) → k ≤ shift_minutes → Begun n ys k (minutes_from k 0 n ys table)
    after k h = let q : 0 + k ≡ k = omega arith in rw q at (begun_all k 0 ys (omega arith) begun_start)

    -- after each minute the list holds the standings of the minutes so far, whatever it held before
    pub minutes_say : (k : ℕ) → 0 < k → k ≤ shift_minutes → minutes_from k 0 n ys table ≡ tab n (λ g. standing_after (day_of T S delay (suc g)) k) ++ drop n ys
    minutes_say k z h =
        ext_get_or fresh_of (minutes_from k 0 n ys table) (xs ++ drop n ys) (omega (arith, (after k h).long, length-append xs (drop n ys), size, length-drop n ys)) (λ i _. go i (dec_lt i n))
      where
        xs : List Standing
        xs = tab n (λ g. standing_after (its g) k)

        size : length xs ≡ n
        size = tab_length n (λ g. standing_after (its g) k)

        go : (i : ℕ) → Dec (i < n) → get_or (minutes_from k 0 n ys table) i fresh_of ≡ get_or (xs ++ drop n ys) i fresh_of
        go i (yes l) =
            begun_later (get_or (minutes_from k 0 n ys table) i fresh_of) k (λ e. omega (arith, e)) ∙ (after k h).starts i l
            ∙ sym (tab_at n (λ g. standing_after (its g) k) fresh_of i l) ∙ sym (append_left xs (drop n ys) i fresh_of (omega (arith, size)))
        go i (no l) =
            let q : i ≡ length xs + (i - n) = omega (arith, size) in
            let p : n + (i - n) ≡ i = omega arith in
            (after k h).others i (omega arith)
            ∙ sym (get_or-drop n ys (i - n) fresh_of ∙ ap (λ (j : ℕ). get_or ys j fresh_of) p)
            ∙ sym (ap (λ (j : ℕ). get_or (xs ++ drop n ys) j fresh_of) q ∙ get_or-append-add xs (drop n ys) (i - n) fresh_of)

-- a minute more is one more move of the list
pub minutes_more : (k m n : ℕ) (l : List Standing) (table : List ℕ) → minutes_from (suc k) m n l table ≡ minute_of n 0 (minutes_from k m n l table) table (m + k)
unfolding minutes_from
minutes_more zero m n l table = let q : m + 0 ≡ m = omega arith in rw q
minutes_more (suc k) m n l table = let q : m + suc k ≡ m + 1 + k = omega arith in rw q (minutes_more k (m + 1) n (minute_of n 0 l table m) table)

-- ---- a table that holds the days

-- the number at place i of it: of the row there the turn, the begin or the end
unfoldable row_number : (ℕ → List Stint) → ℕ → ℕ
row_number days i =
    let k = stint_row (days (i / day_places)) (i % day_places / row_size) in
    cond (eqb (i % day_places % row_size) 0) k.turn (cond (eqb (i % day_places % row_size) 1) k.begin k.end)

module _ (days : ℕ → List Stint) (g j : ℕ) (l : g < most_groomers) (h : j < day_rows) where
  number_at : (c : ℕ) → c < row_size → get_or (tab day_table_places (row_number days)) (stint_place g j + c) 0 ≡ cond (eqb c 0) (stint_row (days g) j).turn (cond (eqb c 1) (stint_row (days g) j).begin (stint_row (days g) j).end)
  unfolding row_number
  number_at c k =
      let at : (stint_place g j + c) / day_places ≡ g = omega arith in
      let row : (stint_place g j + c) % day_places / row_size ≡ j = omega arith in
      let part : (stint_place g j + c) % day_places % row_size ≡ c = omega arith in
      tab_at day_table_places (row_number days) 0 (stint_place g j + c) (omega arith) ∙ rw (at, row, part)

  table_row : stint_in (tab day_table_places (row_number days)) g j ≡ stint_row (days g) j
  unfolding stint_in
  table_row =
      let q : stint_place g j + 0 ≡ stint_place g j = omega arith in
      let turn : get_or (tab day_table_places (row_number days)) (stint_place g j) 0 ≡ (stint_row (days g) j).turn = ap (λ (i : ℕ). get_or (tab day_table_places (row_number days)) i 0) (sym q) ∙ number_at 0 (omega arith) in
      λ i. record { turn = turn i; begin = number_at 1 (omega arith) i; end = number_at 2 (omega arith) i }

pub table_there : (T : Turns) (S : List Bool) (delay : ℕ → ℕ) → (table : List ℕ) × Days T S delay table
table_there T S delay =
    let days : ℕ → List Stint = λ g. day_of T S delay (suc g) in
    (tab day_table_places (row_number days), record { places = tab_length day_table_places (row_number days); rows = λ g j l h. table_row days g j l h })
