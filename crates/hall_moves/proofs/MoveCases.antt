-- Moved prices of minutes by their cases, each premise in the form in which the code's calls and tests leave it. Assumes nothing.
use Prim.Native.Nat.{ℕ, zero, suc, ◌+◌, ◌-◌, ◌*◌, ◌/◌, ◌≤◌, ◌<◌, min}
use mathlib.Core.Path.{◌≡◌, refl, sym, ap, ◌∙◌}
use mathlib.Core.Bool.{Bool, true, false, cond}
use mathlib.Core.List.{List}
use native.Mathlib.Omega.{arith}
use native.Mathlib.Nat.{mul-le-mul, div-le_self, suc-mul}
use native.Mathlib.Numerals.{add-one}
use native.Mathlib.Decide.{dec_lt}
use mir.Syntax.{w32}
use mir.Val.{Fits}
use lib.Dec.{ltb}
use lib.ListN.{length, get_or, set, replicate, length-set, length-replicate, get_or-replicate}
use lib.Seq.{get_or-set_other, ext_get_or}
use borrow.Author.Tests.{lt-ltb, le-ltb}
use Rattle.lists.proofs.Places.{put_more, filled_cases}
use Rattle.lists.specs.Lists.{sum_over, below, tab}
use Rattle.lists.proofs.Bools.{fails, cond_most, up_to}
use Rattle.lists.proofs.Sums.{sum_zero, sum_same, sum_split, all_below, tab_length, tab_at, tab_same}
use Rattle.turn.specs.Turn.{shift_minutes, most_worth}
use Rattle.model.specs.Choice.{has, chosen}
use Rattle.choice_map.specs.Choice.{chosen_in, choice_in, next_chosen, Clean}
use Rattle.choice_map.proofs.Clean.{choice_has, clean_bits, clear_bits}
use Rattle.choice_map.proofs.NextChosen.{next_from, next_clear, next_chosen_lem}
use Rattle.instance.specs.declared.ways.Row.{Row}
use Rattle.instance.specs.Columns.{row_in}
use Rattle.instance.proofs.Rows.{count_is, groomer_at, start_at, end_at}
use Rattle.charge_spec.specs.Hall.{most_units, Hall, charges_at, draw_at, drawn_at}
use Rattle.charge_spec.specs.Plan.{rounded_up}
use Rattle.charge_spec.proofs.Windows.{charges_in, in_charges, draw_at_charging, draw_at_not}
use Rattle.charge.specs.Supply.{Drawn}
use Rattle.hall_by_prices_spec.specs.Prices.{minute_price}
use Rattle.hall_by_prices_spec.specs.Hall.{highest_minute_price, moved_minute, moved_minutes}
use Rattle.hall_look.specs.declared.HallSize.{HallSize}
use Rattle.hall_look.specs.Look.{hall_for, HallPosed}
use Rattle.limit_spec.specs.Prices.{most_price}
use Rattle.hall_moves.specs.Moves.{most_drawn, no_move, most_move, move_places, move_by, moved_by, MovesTo, EachTo, FewMoves, PricesFit, FewDrawn, RoomForMore, DrawnBy}
use Rattle.hall_look.proofs.LookCases.{few_windows, window_inside, window_row}

-- ---- a price's move

module _ (units change drawn : ℕ) {u d : ℕ} (e : u ≡ units) (f : d ≡ drawn) (l : change ≤ most_worth) where
  module _ (h : units < drawn) (few : drawn ≤ most_drawn) (m : units ≤ most_units) where
    rise_most : change * (d - u) ≤ most_worth * most_drawn
    rise_most = mul-le-mul {n₁ = change} {m₁ = d - u} {n₂ = most_worth} {m₂ = most_drawn} l (omega arith)

    pub rise_fits : Fits w32 (change * (d - u))
    rise_fits = omega (arith, rise_most)

    pub rise_up_fits : Fits w32 (change * (d - u) + (u - 1))
    rise_up_fits = omega (arith, rise_most)

    pub rise_move_fits : Fits w32 (no_move + (change * (d - u) + (u - 1)) / u)
    rise_move_fits = omega (arith, rise_most, div-le_self (change * (d - u) + (u - 1)) u)

    pub rise_is : no_move + (change * (d - u) + (u - 1)) / u ≡ move_by change units drawn
    unfolding move_by rounded_up
    rise_is = rw (lt-ltb units drawn h, e, f)

    pub rise_small : no_move + (change * (d - u) + (u - 1)) / u ≤ most_move
    rise_small = omega (arith, rise_most, div-le_self (change * (d - u) + (u - 1)) u)

  module _ (h : drawn ≤ units) (m : units ≤ most_units) where
    fall_most : change * (u - d) ≤ most_worth * most_units
    fall_most = mul-le-mul {n₁ = change} {m₁ = u - d} {n₂ = most_worth} {m₂ = most_units} l (omega arith)

    pub fall_fits : Fits w32 (change * (u - d))
    fall_fits = omega (arith, fall_most)

    pub fall_within : change * (u - d) / u ≤ no_move
    fall_within = omega (arith, fall_most, div-le_self (change * (u - d)) u)

    pub fall_is : no_move - change * (u - d) / u ≡ move_by change units drawn
    unfolding move_by
    fall_is = rw (le-ltb units drawn h, e, f)

    pub fall_small : no_move - change * (u - d) / u ≤ most_move
    fall_small = omega arith

pub ruleset move_by_cases = (rise_fits, rise_up_fits, rise_move_fits, rise_is, rise_small, fall_fits, fall_within, fall_is, fall_small)

-- ---- the same for each draw in a list

pub move_small : (units change drawn : ℕ) → units ≤ most_units → drawn ≤ most_drawn → change ≤ most_worth → move_by change units drawn ≤ most_move
move_small units change drawn u d c = go (dec_lt units drawn)
  where
    go : Dec (units < drawn) → move_by change units drawn ≤ most_move
    go (yes h) = omega (arith, rise_is units change drawn refl refl c h d u, rise_small units change drawn refl refl c h d u)
    go (no h) = let k : drawn ≤ units = omega arith in omega (arith, fall_is units change drawn refl refl c k u, fall_small units change drawn refl refl c k u)

module _ (units change : ℕ) (moves : List ℕ) (s : MovesTo units change moves move_places) (drawn : ℕ) (h : drawn ≤ 4 * most_units) where
  pub listed_place : drawn < length moves
  listed_place = omega (arith, s.places)

  pub listed_is : get_or moves drawn 0 ≡ move_by change units drawn
  listed_is = s.values drawn (omega arith)

  pub listed_small : units ≤ most_units → change ≤ most_worth → drawn ≤ most_drawn → get_or moves drawn 0 ≤ most_move
  listed_small u c d = omega (arith, listed_is, move_small units change drawn u d c)

pub ruleset listed_cases = (listed_place, listed_is, listed_small)

-- ---- one price

moved_is : (change units drawn price : ℕ) {by : ℕ} → units ≤ most_units → change ≤ most_worth → price ≤ most_price → by ≡ move_by change units drawn → min highest_minute_price (price + by - no_move) ≡ moved_minute change units drawn price
unfolding move_by moved_minute
moved_is change units drawn price {by} u c p e = go (dec_lt units drawn)
  where
    go : Dec (units < drawn) → min highest_minute_price (price + by - no_move) ≡ cond (ltb units drawn) (min highest_minute_price (price + rounded_up (change * (drawn - units)) units)) (price - change * (units - drawn) / units)
    go (yes h) = let k : by ≡ no_move + rounded_up (change * (drawn - units)) units = e ∙ rw (lt-ltb units drawn h) in rw (lt-ltb units drawn h) (omega (arith, k))
    go (no h) =
        let l : drawn ≤ units = omega arith in
        let k : by ≡ no_move - change * (units - drawn) / units = e ∙ rw (le-ltb units drawn l) in
        rw (le-ltb units drawn l) (omega (arith, k, fall_within units change drawn refl refl c l u))

-- ---- the move of each minute

pub each_drawn : (drawn : List ℕ) (k : ℕ) → k < shift_minutes → FewDrawn drawn → get_or drawn k 0 ≤ most_drawn
unfolding FewDrawn
each_drawn drawn k h f = f k h

pub ruleset each_cases = (filled_cases, each_drawn)

-- ---- all prices

module _ (by old : List ℕ) where
  -- those of the first m minutes are moved
  pub record MovedTo (new : List ℕ) (m : ℕ) : Type 0 where
    pub within : m ≤ shift_minutes
    pub size : length new ≡ length old
    pub fit : (i : ℕ) → i < m → get_or old i 0 ≤ most_price
    pub done : (i : ℕ) → i < m → get_or new i 0 ≡ min highest_minute_price (get_or old i 0 + get_or by i 0 - no_move)
    pub others : (i : ℕ) → m ≤ i → get_or new i 0 ≡ get_or old i 0

  pub moved_start : MovedTo old 0
  moved_start = record { within = omega arith; size = refl; fit = λ i l. absurd (omega arith); done = λ i l. absurd (omega arith); others = λ i l. refl }

  pub moved_few : (m : ℕ) → m < shift_minutes → FewMoves by → get_or by m 0 ≤ most_move
  unfolding FewMoves
  moved_few m h f = f m h

  module _ (l : length old ≡ shift_minutes) {new : List ℕ} {m : ℕ} (s : MovedTo new m) where
    pub moved_long : length new ≡ shift_minutes
    moved_long = s.size ∙ l

    pub moved_inside : m < shift_minutes → m < length new
    moved_inside h = omega (arith, moved_long)

    pub moved_more : {p x : ℕ} → m < shift_minutes → p ≡ get_or new m 0 → p < 65536 → x ≡ min highest_minute_price (p + get_or by m 0 - no_move) → MovedTo (set new m x) (m + 1)
    moved_more {x = x} h e a f =
        record {
          within = omega arith;
          size = length-set new m x ∙ s.size;
          fit = rw add-one (up_to (λ i. get_or old i 0 ≤ most_price) m s.fit (omega (arith, e, a, s.others m (omega arith))));
          done =
              put_more (λ i y. y ≡ min highest_minute_price (get_or old i 0 + get_or by i 0 - no_move)) new m x (moved_inside h) s.done
              (f ∙ ap (λ (y : ℕ). min highest_minute_price (y + get_or by m 0 - no_move)) (e ∙ s.others m (omega arith)));
          others = λ i k. get_or-set_other new m i x 0 (omega arith) ∙ s.others i (omega arith);
        }

    pub moved_done : shift_minutes ≤ m → new ≡ moved_by by old
    unfolding moved_by minute_price
    moved_done h =
        let f : ℕ → ℕ = λ i. min highest_minute_price (get_or old i 0 + get_or by i 0 - no_move) in
        ext_get_or 0 new (tab shift_minutes f) (moved_long ∙ sym (tab_length shift_minutes f))
        (λ i k. s.done i (omega (arith, moved_long)) ∙ sym (tab_at shift_minutes f 0 i (omega (arith, moved_long))))

    pub moved_fit : shift_minutes ≤ m → PricesFit old
    unfolding PricesFit
    moved_fit h i k = s.fit i (omega arith)

pub ruleset moved_minutes_cases = (moved_start, moved_few, moved_long, moved_inside, moved_more, moved_done, moved_fit)

-- ---- the windows of a set draw

-- what the windows before t that a map has chosen draw at a minute
unfoldable pub drawn_before : Hall → List ℕ → ℕ → ℕ → ℕ
drawn_before H map t m = sum_over (λ u. cond (chosen_in map u) (draw_at H m u) 0) (below t)

-- they are drawn, and t is the next of the set
pub record SetDrawnTo (H : Hall) (n : ℕ) (map drawn : List ℕ) (t : ℕ) : Type 0 where
  pub within : t ≤ 8 * length map
  pub here : t < n → chosen_in map t ≡ true
  pub places : length drawn ≡ shift_minutes
  pub values : (m : ℕ) → m < shift_minutes → get_or drawn m 0 ≡ drawn_before H map t m

module _ (H : Hall) (map : List ℕ) (m : ℕ) where
  -- windows that are not chosen may be passed over
  drawn_skip : (a b : ℕ) → a ≤ b → ((u : ℕ) → a ≤ u → u < b → chosen_in map u ≡ false) → drawn_before H map b m ≡ drawn_before H map a m
  unfolding drawn_before
  drawn_skip a b l h =
      let e : b ≡ a + (b - a) = omega arith in
      let p : drawn_before H map b m ≡ drawn_before H map (a + (b - a)) m = ap (λ (k : ℕ). drawn_before H map k m) e in
      let rest : sum_over (λ u. cond (chosen_in map (a + u)) (draw_at H m (a + u)) 0) (below (b - a)) ≡ 0 =
      sum_zero (λ u. cond (chosen_in map (a + u)) (draw_at H m (a + u)) 0) (all_below (b - a) (λ u k. rw (h (a + u) (omega arith) (omega arith)))) in
      omega (arith, p, rest, sum_split (λ u. cond (chosen_in map u) (draw_at H m u) 0) a (b - a))

  drawn_one : (t : ℕ) → chosen_in map t ≡ true → drawn_before H map (t + 1) m ≡ draw_at H m t + drawn_before H map t m
  unfolding drawn_before
  drawn_one t e = rw (add-one t, e)

  drawn_most : (most n : ℕ) → ((u : ℕ) → u < n → draw_at H m u ≤ most) → drawn_before H map n m ≤ n * most
  unfolding drawn_before
  drawn_most most zero h = omega arith
  drawn_most most (suc n) h = omega (arith, suc-mul n most, drawn_most most n (λ u l. h u (omega arith)), cond_most (chosen_in map n) (h n (omega arith)))

module _ (h : HallSize) (cols relaxed : List ℕ) (q : HallPosed h cols) (c : Clean h.size.count relaxed) where
  abbrev H : Hall
  H = hall_for h cols

  abbrev n : ℕ
  n = h.size.count

  next_here : (t : ℕ) {u : ℕ} → u ≡ next_chosen relaxed t → u < n → chosen_in relaxed u ≡ true
  next_here t e l = let k : next_chosen relaxed t < 8 * length relaxed = omega (arith, e, clean_bits c) in rw e (next_chosen_lem relaxed t k)

  draw_most : (m u : ℕ) → u < n → draw_at H m u ≤ most_units
  unfolding draw_at
  draw_most m u l = cond_most (charges_at H m u) (omega (arith, q.held.draws u l, q.held.units_to))

  before_most : (t m : ℕ) → t ≤ n → drawn_before H relaxed t m ≤ t * most_units
  before_most t m l = drawn_most H relaxed m most_units t (λ u k. draw_most m u (omega arith))

  pub set_few : length relaxed ≤ 65536
  set_few = omega (arith, c.size, few_windows h cols q)

  pub set_start : {t : ℕ} {drawn : List ℕ} → t ≡ next_chosen relaxed 0 → t ≤ 8 * length relaxed → drawn ≡ replicate shift_minutes 0 → SetDrawnTo H n relaxed drawn t
  unfolding drawn_before
  set_start {t} e l z =
      record {
        within = l;
        here = next_here 0 e;
        places = rw z (length-replicate {A = ℕ} shift_minutes 0);
        values = λ m k. rw z (get_or-replicate {A = ℕ} shift_minutes m 0 0 k ∙ sym (drawn_skip H relaxed m 0 t (omega arith) (λ u a b. next_clear relaxed 0 u a (omega (arith, e)))));
      }

  module _ {t : ℕ} (l : t < n) where
    pub set_next : t + 1 ≤ 8 * length relaxed
    set_next = omega (arith, clean_bits c)

    pub set_less : {u : ℕ} → u ≡ next_chosen relaxed (t + 1) → 8 * length relaxed - u < 8 * length relaxed - t
    set_less e = omega (arith, e, next_from relaxed (t + 1), clean_bits c)

    module _ {drawn : List ℕ} (s : SetDrawnTo H n relaxed drawn t) where
      pub set_long : length drawn ≡ shift_minutes
      set_long = s.places

      pub set_room : RoomForMore drawn
      unfolding RoomForMore
      set_room m k = omega (arith, s.values m k, before_most t m (omega arith), few_windows h cols q)

      module _ {a : Row} (e : a ≡ row_in cols t) {drawn' : List ℕ} (d : Drawn a.start a.groomer a.end drawn drawn') where
        start_is : a.start ≡ H.windows.start t
        start_is = start_at h.size cols t l e

        end_is : a.end ≡ H.windows.end t
        end_is = end_at h.size cols t l e

        drawn_besides : (m : ℕ) → get_or drawn' m 0 ≡ get_or drawn m 0 + draw_at H m t
        drawn_besides m = go (dec_lt m a.start) (dec_lt m a.end)
          where
            free : (charges_at H m t ≡ true → ⊥) → draw_at H m t ≡ 0
            free k = draw_at_not H m t (fails (charges_at H m t) k)

            go : Dec (m < a.start) → Dec (m < a.end) → get_or drawn' m 0 ≡ get_or drawn m 0 + draw_at H m t
            go (yes x) y = omega (arith, d.earlier m x, free (λ k. omega (arith, charges_in H m t k, start_is)))
            go (no x) (yes y) = omega (arith, d.drawing m (omega arith) y, groomer_at h.size cols t l e, draw_at_charging H m t (in_charges H m t (omega (arith, start_is)) (omega (arith, end_is))))
            go (no x) (no y) = omega (arith, d.later m (omega arith), free (λ k. omega (arith, charges_in H m t k, end_is)))

        pub set_more : {u : ℕ} → u ≡ next_chosen relaxed (t + 1) → u ≤ 8 * length relaxed → SetDrawnTo H n relaxed drawn' u
        set_more {u} f k =
            record {
              within = k;
              here = next_here (t + 1) f;
              places = d.places ∙ s.places;
              values = λ m i. at m i ∙ sym (drawn_skip H relaxed m (t + 1) u (omega (arith, f, next_from relaxed (t + 1))) (λ v x y. next_clear relaxed (t + 1) v x (omega (arith, f))));
            }
          where
            at : (m : ℕ) → m < shift_minutes → get_or drawn' m 0 ≡ drawn_before H relaxed (t + 1) m
            at m i = omega (arith, drawn_besides m, s.values m i, drawn_one H relaxed m t (s.here l))

  module _ {drawn : List ℕ} {t : ℕ} (l : n ≤ t) (s : SetDrawnTo H n relaxed drawn t) where
    drawn_before_lem : (m : ℕ) → m < shift_minutes → get_or drawn m 0 ≡ drawn_before H relaxed n m
    drawn_before_lem m k = s.values m k ∙ drawn_skip H relaxed m n t l (λ u a b. clear_bits n relaxed c.clear u a (omega (arith, s.within, c.size)))

    drawn_all : (m : ℕ) → drawn_before H relaxed n m ≡ drawn_at H (choice_in n relaxed) m
    unfolding drawn_before drawn_at chosen
    drawn_all m =
        sum_same (λ u. cond (chosen_in relaxed u) (draw_at H m u) 0) (λ u. cond (has (choice_in n relaxed) u) (draw_at H m u) 0) n (λ u k. ap (λ (b : Bool). cond b (draw_at H m u) 0) (sym (choice_has n relaxed u k)))
        ∙ ap (λ (k : ℕ). sum_over (λ u. cond (has (choice_in n relaxed) u) (draw_at H m u) 0) (below k)) (sym (count_is h.size cols))

    pub set_done : DrawnBy H (choice_in n relaxed) drawn
    unfolding FewDrawn
    set_done =
        record {
          places = s.places;
          values = λ m k. drawn_before_lem m k ∙ drawn_all m;
          few = λ m k. omega (arith, drawn_before_lem m k, before_most n m (omega arith), few_windows h cols q);
        }

pub ruleset set_drawn_cases = (window_inside, window_row, set_few, set_start, set_next, set_less, set_long, set_room, set_more, set_done)

-- ---- the whole

module _ (h : HallSize) (cols : List ℕ) (S : List Bool) (drawn : List ℕ) (q : HallPosed h cols) (change : ℕ) (c : change ≤ most_worth) (d : DrawnBy (hall_for h cols) S drawn) {by : List ℕ} (s : EachTo h.units change drawn by shift_minutes) where
  pub minutes_few : FewMoves by
  unfolding FewMoves FewDrawn
  minutes_few m l = omega (arith, s.values m l, move_small h.units change (get_or drawn m 0) q.held.units_to (d.few m l) c)

  pub minutes_moved : (prices : List ℕ) {new : List ℕ} → PricesFit prices → new ≡ moved_by by prices → new ≡ moved_minutes (hall_for h cols) S change prices
  unfolding moved_by moved_minutes minute_price PricesFit
  minutes_moved prices p e =
      e
      ∙ tab_same shift_minutes (λ m. min highest_minute_price (get_or prices m 0 + get_or by m 0 - no_move)) (λ m. moved_minute change h.units (drawn_at (hall_for h cols) S m) (get_or prices m 0))
      (λ m l. moved_is change h.units (get_or drawn m 0) (get_or prices m 0) q.held.units_to c (p m l) (s.values m l)
      ∙ ap (λ (x : ℕ). moved_minute change h.units x (get_or prices m 0)) (d.values m l))

pub ruleset minutes_cases = (minutes_few, minutes_moved)
