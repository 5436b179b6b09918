-- A minute of one groomer by its cases, and what the loops over the list keep. Assumes nothing.
use mathlib.Core.Path.{◌≡◌, refl, sym, ◌∙◌, ap, subst}
use Prim.Native.Nat.{ℕ, zero, suc, ◌+◌, ◌-◌, ◌<◌, ◌≤◌, ◌/◌}
use native.Mathlib.Omega.{arith}
use native.Mathlib.Nat.{sub-zero}
use mathlib.Core.Bool.{Bool, true, false}
use mathlib.Core.List.{List}
use mathlib.Core.Logic.{◌⊎◌, inl, inr}
use lib.Dec.{T, eqb, eqb→eq}
use lib.ListN.{length, set, get_or, length-set}
use lib.Seq.{get_or-set_same, get_or-set_other}
use borrow.Author.Tests.{eq-eqb, ne_eqb}
use Rattle.turn.specs.Turn.{shift_minutes}
use Rattle.sheet.specs.Kind.{most_groomers}
use Rattle.play_spec.specs.Day.{over_minutes}
use Rattle.play_spec.specs.DayTable.{day_table_places, stint_in, doing_by}
use Rattle.play_spec.specs.declared.Standing.{Standing}
use Rattle.play_spec.specs.Standing.{fresh_of, total_of}
use Rattle.play_spec.proofs.Standings.{moved_total}
use Rattle.play_spec.specs.Minutes.{begun_of, step_of, minute_of, minutes_from, MinuteReady, AllReady}

-- ---- the cases of a step

pub begun_first : (s : Standing) (m : ℕ) → m ≡ 0 → fresh_of ≡ begun_of s m
unfolding begun_of
begun_first s m e = rw (eq-eqb m 0 e)

pub begun_anew : (s : Standing) (m : ℕ) {r : Standing} → r ≡ fresh_of → m ≡ 0 → r ≡ begun_of s m
begun_anew s m e z = e ∙ begun_first s m z

pub begun_later : (s : Standing) (m : ℕ) → (m ≡ 0 → ⊥) → s ≡ begun_of s m
unfolding begun_of
begun_later s m e = rw (ne_eqb m 0 e)

pub ruleset begun_cases = (begun_anew, begun_later)

-- ---- a step makes one more minute

step_total : (s : Standing) (table : List ℕ) (g m : ℕ) → MinuteReady table g m s → total_of (step_of s table g m) ≡ m + 1
unfolding step_of
step_total s table g m r = moved_total (begun_of s m) (doing_by (stint_in table g ((begun_of s m).driving / over_minutes)) m) ∙ ap (λ (t : ℕ). t + 1) r.3

-- ---- a minute of the list, g of whose n groomers are moved. What the loop of `minute` keeps
pub length_minute : (k g : ℕ) (l : List Standing) (table : List ℕ) (m : ℕ) → length (minute_of k g l table m) ≡ length l
unfolding minute_of
length_minute zero g l table m = refl
length_minute (suc k) g l table m = length_minute k (g + 1) (set l g (step_of (get_or l g fresh_of) table g m)) table m ∙ length-set l g (step_of (get_or l g fresh_of) table g m)

pub record Mid (n : ℕ) (ys : List Standing) (table : List ℕ) (m g : ℕ) (l : List Standing) : Type 0 where
  pub same : length l ≡ length ys
  pub rest : minute_of (n - g) g l table m ≡ minute_of n 0 ys table m
  pub ready : (j : ℕ) → g ≤ j → j < n → MinuteReady table j m (get_or l j fresh_of)

module _ (n : ℕ) (ys : List Standing) (table : List ℕ) (m : ℕ) where
  pub mid_start : AllReady table m n ys → Mid n ys table m 0 ys
  mid_start h = record { same = refl; rest = rw sub-zero; ready = λ j _ l. h j l }

  pub mid_next : (g : ℕ) (l : List Standing) → g < n → Mid n ys table m g l → Mid n ys table m (g + 1) (set l g (step_of (get_or l g fresh_of) table g m))
  unfolding minute_of
  mid_next g l less i = record {
    same = length-set l g (step_of (get_or l g fresh_of) table g m) ∙ i.same;
    rest = let k : n - g ≡ suc (n - (g + 1)) = omega arith in rw k at i.rest;
    ready = λ j from to. let other : j ≡ g → ⊥ = λ e. omega arith in let e : get_or (set l g (step_of (get_or l g fresh_of) table g m)) j fresh_of ≡ get_or l j fresh_of = get_or-set_other l g j (step_of (get_or l g fresh_of) table g m) fresh_of other in
        let below : g ≤ j = omega arith in rw e (i.ready j below to);
  }

  pub mid_end : (g : ℕ) (l : List Standing) → n ≤ g → Mid n ys table m g l → l ≡ minute_of n 0 ys table m
  unfolding minute_of
  mid_end g l over i = let k : n - g ≡ 0 = omega arith in rw k at i.rest

-- ---- a groomer of the list, a minute later
pub minute_before : (k g : ℕ) (l : List Standing) (table : List ℕ) (m j : ℕ) → j < g → get_or (minute_of k g l table m) j fresh_of ≡ get_or l j fresh_of
unfolding minute_of
minute_before zero g l table m j h = refl
minute_before (suc k) g l table m j h =
    let later : j < g + 1 = omega arith in let other : j ≡ g → ⊥ = λ e. omega arith in
    minute_before k (g + 1) (set l g (step_of (get_or l g fresh_of) table g m)) table m j later ∙ get_or-set_other l g j (step_of (get_or l g fresh_of) table g m) fresh_of other

same_or_later : (g j : ℕ) → g ≤ j → (j ≡ g) ⊎ (g + 1 ≤ j)
same_or_later g j h = go (eqb j g) refl
  where
    go : (b : Bool) → eqb j g ≡ b → (j ≡ g) ⊎ (g + 1 ≤ j)
    go true e = inl (eqb→eq j g (subst T (sym e) tt))
    go false e = let other : j ≡ g → ⊥ = λ p. subst T (sym (eq-eqb j g p) ∙ e) tt in inr (omega (arith, other))

pub minute_at : (k g : ℕ) (l : List Standing) (table : List ℕ) (m j : ℕ) → g ≤ j → j < g + k → g + k ≤ length l → get_or (minute_of k g l table m) j fresh_of ≡ step_of (get_or l j fresh_of) table j m
unfolding minute_of
minute_at zero g l table m j h h' room = absurd (omega arith)
minute_at (suc k) g l table m j h h' room =
    let within : g < length l = omega arith in let up : j < g + 1 + k = omega arith in let room' : g + 1 + k ≤ length (set l g (step_of (get_or l g fresh_of) table g m)) = rw (length-set l g (step_of (get_or l g fresh_of) table g m)) (omega arith) in
    elim (same_or_later g j h) [
      | inl e ↦ let here : j < g + 1 = omega arith in minute_before k (g + 1) (set l g (step_of (get_or l g fresh_of) table g m)) table m j here ∙ rw e (get_or-set_same l g (step_of (get_or l g fresh_of) table g m) fresh_of within)
      | inr more ↦ let other : j ≡ g → ⊥ = λ e. omega arith in minute_at k (g + 1) (set l g (step_of (get_or l g fresh_of) table g m)) table m j more up room' ∙ ap (λ (s : Standing). step_of s table j m) (get_or-set_other l g j (step_of (get_or l g fresh_of) table g m) fresh_of other)
    ]

pub minute_ready : (n : ℕ) (l : List Standing) (table : List ℕ) (m : ℕ) → n ≤ length l → m + 1 < shift_minutes → AllReady table m n l → AllReady table (m + 1) n (minute_of n 0 l table m)
minute_ready n l table m room day h g less =
    let e : get_or (minute_of n 0 l table m) g fresh_of ≡ step_of (get_or l g fresh_of) table g m = minute_at n 0 l table m g (omega arith) (omega arith) (omega arith) in
    let later : m + 1 ≡ 0 → ⊥ = λ z. omega arith in
    ((h g less).0, (h g less).1, day, ap total_of (sym (begun_later (get_or (minute_of n 0 l table m) g fresh_of) (m + 1) later) ∙ e) ∙ step_total (get_or l g fresh_of) table g m (h g less))

-- ---- the minutes, so many of them. What the loop of `play` keeps
pub record Minutes (total n : ℕ) (ys : List Standing) (table : List ℕ) (m : ℕ) (l : List Standing) : Type 0 where
  pub same : length l ≡ length ys
  pub rest : minutes_from (total - m) m n l table ≡ minutes_from total 0 n ys table
  pub ready : m < shift_minutes → AllReady table m n l

module _ (total n : ℕ) (ys : List Standing) (table : List ℕ) where
  pub minutes_start : n ≤ most_groomers → length table ≡ day_table_places → Minutes total n ys table 0 ys
  unfolding begun_of
  minutes_start few places = record { same = refl; rest = rw sub-zero; ready = λ _ g less. (places, omega arith, omega arith, refl) }

  pub minutes_next : (m : ℕ) (l : List Standing) → n ≤ length ys → m < total → m < shift_minutes → Minutes total n ys table m l → Minutes total n ys table (m + 1) (minute_of n 0 l table m)
  unfolding minutes_from
  minutes_next m l room less within i = record {
    same = length_minute n 0 l table m ∙ i.same;
    rest = let k : total - m ≡ suc (total - (m + 1)) = omega arith in rw k at i.rest;
    ready = λ day. let enough : n ≤ length l = rw i.same room in minute_ready n l table m enough day (i.ready within);
  }

  pub minutes_end : (m : ℕ) (l : List Standing) → total ≤ m → Minutes total n ys table m l → l ≡ minutes_from total 0 n ys table
  unfolding minutes_from
  minutes_end m l over i = let k : total - m ≡ 0 = omega arith in rw k at i.rest
