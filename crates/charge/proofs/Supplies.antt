-- What the chosen windows use of the supply: the tests of a row by their cases, and a window chosen besides. Assumes nothing.
use mathlib.Core.Path.{◌≡◌, refl, sym, ◌∙◌, ap}
use mathlib.Core.Logic.{◌≢◌}
use mathlib.Core.Bool.{Bool, true, false, not, ◌&&◌}
use mathlib.Core.List.{List}
use Prim.Native.Nat.{ℕ, zero, suc, ◌+◌, ◌-◌, ◌≤◌, ◌<◌}
use native.Mathlib.Omega.{arith}
use native.Mathlib.Decide.{dec_lt, ℕ_discrete}
use native.Mathlib.Numerals.{add-one}
use lib.Dec.{leb, eqb}
use lib.ListN.{length, get_or, set, take, drop, replicate, length-drop, length-replicate}
use lib.Seq.{get_or-set_same, get_or-set_other, get_or-take, get_or-drop, length-take-le}
use mir.Syntax.{w8}
use mir.Val.{Fits}
use borrow.Author.Tests.{le-leb, lt-leb, leb-true, not-true, not-false}
use Rattle.lists.specs.Lists.{every}
use Rattle.lists.proofs.Bools.{and_2, fails, every_of, every_at, every_not, every_fails, every_same}
use Rattle.turn.specs.Turn.{shift_minutes}
use Rattle.model.specs.Choice.{has, chosen}
use Rattle.model.proofs.Choices.{none_chosen, chosen_put, chosen_put_most}
use Rattle.choice_map.proofs.Clean.{zeros_at}
use Rattle.instance.specs.declared.ways.Row.{Row}
use Rattle.instance.specs.Ways.{turn_row}
use Rattle.instance.specs.Columns.{row_in}
use Rattle.instance.proofs.Rows.{slope_at, groomer_at, start_at, end_at}
use Rattle.charge_spec.specs.Hall.{Hall, window_count, vehicle, draw, same_vehicle, charges_at, draw_at, drawn_at, vehicle_free, supply_lasts, stays_allowed}
use Rattle.charge_spec.proofs.Windows.{vehicle_is, is_vehicle, charges_in, in_charges, draw_at_charging, draw_at_not}
use Rattle.charge_spec.proofs.Allowing.{free_vehicle}
use Rattle.hall_steps.specs.declared.one_kind.OneKind.{OneKind}
use Rattle.hall_steps.specs.Bounds.{HallHeld}
use Rattle.charge.specs.Supply.{used_places, part_minutes, free_row, lasts_for, lasts_row, allowed_row, RowInHall, RoomFor, Drawn, WithWindow, Supplied}

-- ---- tests

-- a draw beside what is used, in what the units leave
room_is : (x d u : ℕ) → d ≤ u → leb x (u - d) ≡ leb (x + d) u
room_is x d u h = go (dec_lt u (x + d))
  where
    go : Dec (u < x + d) → leb x (u - d) ≡ leb (x + d) u
    go (yes l) = lt-leb x (u - d) (omega arith) ∙ sym (lt-leb (x + d) u l)
    go (no l) = le-leb x (u - d) (omega arith) ∙ sym (le-leb (x + d) u (omega arith))

-- ---- the supply lasts at some minutes

-- number k of n places from one on
part_at : (used : List ℕ) (from n k : ℕ) → from + n ≤ length used → k < n → get_or (take (from + n - from) (drop from used)) k 0 ≡ get_or used (from + k) 0
part_at used from n k h l = let m : k < from + n - from = omega arith in rw (get_or-take (from + n - from) (drop from used) k 0 m) (get_or-drop from used k 0)

part_long : (used : List ℕ) (from n : ℕ) → from + n ≤ length used → length (take (from + n - from) (drop from used)) ≡ n
part_long used from n h = let l : from + n - from ≤ length (drop from used) = omega (arith, length-drop from used) in omega (arith, length-take-le (from + n - from) (drop from used) l)

and_swap : (a b : Bool) → (a && b) ≡ (b && a)
and_swap true true = refl
and_swap true false = refl
and_swap false true = refl
and_swap false false = refl

module _ (used : List ℕ) (from room n : ℕ) where
  pub for_start : true ≡ lasts_for used from room 0
  unfolding lasts_for every
  for_start = refl

  module _ (h : from + n ≤ length used) (k : ℕ) {all : Bool} (e : all ≡ lasts_for used from room k) where
    pub for_more : k < length (take (from + n - from) (drop from used)) → (all && leb (get_or (take (from + n - from) (drop from used)) k 0) room) ≡ lasts_for used from room (k + 1)
    unfolding lasts_for every
    for_more l =
        let m : k < n = omega (arith, part_long used from n h) in
        rw (part_at used from n k h m, add-one k, ← e) (and_swap all (leb (get_or used (from + k) 0) room))

-- ---- part by part

module _ (used : List ℕ) (start room : ℕ) where
  abbrev test : ℕ → ℕ → Bool
  test = λ from i. leb (get_or used (from + i) 0) room

  -- minute i from the start on is minute k from another one on
  same_minute : (from i k : ℕ) → start + i ≡ from + k → test from k ≡ test start i
  same_minute from i k e = ap (λ (x : ℕ). leb (get_or used x 0) room) (sym e)

  -- a part that has a minute without room
  part_short : (from n end : ℕ) → start ≤ from → from + n ≤ end → lasts_for used from room n ≡ false → lasts_for used start room (end - start) ≡ false
  unfolding lasts_for
  part_short from n end h l e =
      let (k, m, g) = every_not (test from) n e in
      every_fails (test start) (end - start) (from - start + k) (omega arith) (sym (same_minute from (from - start + k) k (omega arith)) ∙ g)

  -- minutes up to one, and a part that goes on from there or before
  part_joined : (m from n end : ℕ) → start ≤ from → from ≤ m → from + n ≡ end → lasts_for used start room (m - start) ≡ true → lasts_for used from room n ≡ true → lasts_for used start room (end - start) ≡ true
  unfolding lasts_for
  part_joined m from n end h k q e f = every_of (test start) (end - start) (λ i l. go i l (dec_lt i (m - start)))
    where
      go : (i : ℕ) → i < end - start → Dec (i < m - start) → test start i ≡ true
      go i l (yes b) = every_at (test start) (m - start) e i b
      go i l (no b) = sym (same_minute from i (start + i - from) (omega arith)) ∙ every_at (test from) n f (start + i - from) (omega arith)

  pub long_start : lasts_for used start room (start - start) ≡ true
  unfolding lasts_for every
  long_start = let z : start - start ≡ 0 = omega arith in rw z

  module _ (end m : ℕ) (h : start ≤ m) {b : Bool} where
    pub long_not : {last : ℕ} → last ≡ end - part_minutes → start + part_minutes ≤ end → m < last → b ≡ lasts_for used m room part_minutes → not b ≡ true → false ≡ lasts_for used start room (end - start)
    long_not o w l e f = sym (part_short m part_minutes end h (omega arith) (sym e ∙ not-true b f))

    module _ (g : lasts_for used start room (m - start) ≡ true) where
      pub long_more : b ≡ lasts_for used m room part_minutes → not b ≡ false → lasts_for used start room (m + part_minutes - start) ≡ true
      long_more e f = part_joined m m part_minutes (m + part_minutes) h (omega arith) (omega arith) g (sym e ∙ not-false b f)

      pub long_done : (last : ℕ) → last ≡ end - part_minutes → start + part_minutes ≤ end → last ≤ m → b ≡ lasts_for used last room part_minutes → b ≡ lasts_for used start room (end - start)
      long_done last o w l e = go b refl
        where
          go : (c : Bool) → b ≡ c → b ≡ lasts_for used start room (end - start)
          go true f = f ∙ sym (part_joined m last part_minutes end (omega arith) l (omega arith) g (sym e ∙ f))
          go false f = f ∙ sym (part_short last part_minutes end (omega arith) (omega arith) (sym e ∙ f))

pub ruleset long_cases = (long_start, long_not, long_more, long_done)

module _ (units : ℕ) (used : List ℕ) (r : Row) where
  pub room_in_8 : RowInHall units r → Fits w8 (units - r.groomer)
  room_in_8 h = omega (arith, h.units_to)

  pub lasts_is : {q : Bool} → RowInHall units r → q ≡ lasts_for used r.start (units - r.groomer) (r.end - r.start) → q ≡ lasts_row units used r
  unfolding lasts_for lasts_row
  lasts_is h e =
      e ∙ every_same (λ i. leb (get_or used (r.start + i) 0) (units - r.groomer)) (λ i. leb (get_or used (r.start + i) 0 + r.groomer) units) (r.end - r.start)
      (λ i b. room_is (get_or used (r.start + i) 0) r.groomer units h.draw)

  module _ {b : Bool} (f : b ≡ free_row used r) where
    pub allowed_not : b ≡ false → false ≡ allowed_row units used r
    unfolding allowed_row
    allowed_not h = let z : free_row used r ≡ false = sym f ∙ h in rw z

    pub allowed_lasts : {q : Bool} → b ≡ true → q ≡ lasts_row units used r → q ≡ allowed_row units used r
    unfolding allowed_row
    allowed_lasts h e = let z : free_row used r ≡ true = sym f ∙ h in rw z e

pub free_row_lem : (used : List ℕ) (r : Row) → eqb (get_or used (shift_minutes + r.slope) 0) 0 ≡ free_row used r
unfolding free_row
free_row_lem used r = refl

-- what the test says, minute by minute
pub lasts_room : (units : ℕ) (used : List ℕ) (r : Row) → allowed_row units used r ≡ true → RoomFor units used r
unfolding allowed_row free_row lasts_row RoomFor
lasts_room units used r e m h l =
    let q : r.start + (m - r.start) ≡ m = omega arith in
    let test : ℕ → Bool = λ i. leb (get_or used (r.start + i) 0 + r.groomer) units in
    rw q at (leb-true (get_or used (r.start + (m - r.start)) 0 + r.groomer) units (every_at test (r.end - r.start) (and_2 (eqb (get_or used (shift_minutes + r.slope) 0) 0) (every test (r.end - r.start)) e) (m - r.start) (omega arith)))

pub ruleset lasts_cases = (room_in_8, lasts_is, free_row_lem, allowed_not, allowed_lasts)

-- ---- a row draws

module _ (r : Row) (used : List ℕ) where
  pub draw_fits : (units m : ℕ) {now' : List ℕ} → RowInHall units r → RoomFor units used r → Drawn r.start r.groomer m used now' → r.start ≤ m → m < r.end → Fits w8 (get_or now' m 0 + r.groomer)
  unfolding RoomFor
  draw_fits units m h room d l k = omega (arith, d.later m (omega arith), room m l k, h.units_to)

-- ---- the places say what is used

-- a row of the columns is one of the hall
pub row_in_hall : (a : OneKind) (cols : List ℕ) (j : ℕ) {r : Row} → HallHeld a.units a.size cols → j < a.size.count → r ≡ row_in cols j → RowInHall a.units r
row_in_hall a cols j held l e =
    record {
      units_to = held.units_to;
      draw = rw (groomer_at a.size cols j l e) (held.draws j l);
      vehicle = rw (slope_at a.size cols j l e) (held.vehicles j l);
      starts = rw (start_at a.size cols j l e, end_at a.size cols j l e) (held.held.starts j l);
      ends = rw (end_at a.size cols j l e) (held.held.ends j l);
    }

module _ (H : Hall) (S : List Bool) (used : List ℕ) (s : Supplied H S used) (j : ℕ) (l : j < window_count H) where
  abbrev row : Row
  row = turn_row H.windows j

  row_lasts : H.windows.end j ≤ shift_minutes → lasts_row H.units used row ≡ supply_lasts H S j
  unfolding lasts_row supply_lasts turn_row
  row_lasts h =
      every_same (λ i. leb (get_or used (H.windows.start j + i) 0 + draw H j) H.units) (λ i. leb (drawn_at H S (H.windows.start j + i) + draw H j) H.units) (H.windows.end j - H.windows.start j)
      (λ i k. ap (λ (x : ℕ). leb (x + draw H j) H.units) (s.minutes (H.windows.start j + i) (omega arith)))

  pub row_stays : H.windows.end j ≤ shift_minutes → allowed_row H.units used row ≡ stays_allowed H S j
  unfolding allowed_row free_row stays_allowed turn_row
  row_stays h = rw (s.vehicles j l) (ap (λ (b : Bool). vehicle_free H S j && b) (row_lasts h))

  module _ (k : length S ≡ window_count H) (free : vehicle_free H S j ≡ true) where
    unchosen : has S j ≡ false
    unchosen = fails (has S j) (λ e. free_vehicle H S j free j l e refl)

    -- what is drawn at a minute then
    drawn_then : (m : ℕ) → drawn_at H (set S j true) m ≡ drawn_at H S m + draw_at H m j
    unfolding drawn_at
    drawn_then m = omega (arith, chosen_put (window_count H) S (draw_at H m) j l k unchosen, chosen_put_most (window_count H) S (draw_at H m) j)

    not_charging : (m : ℕ) → (charges_at H m j ≡ true → ⊥) → draw_at H m j ≡ 0
    not_charging m h = draw_at_not H m j (fails (charges_at H m j) h)

    -- a vehicle is free then if it was, and is not j's
    free_other : (i : ℕ) → vehicle H i ≢ vehicle H j → vehicle_free H (set S j true) i ≡ vehicle_free H S i
    unfolding vehicle_free
    free_other i d = every_same (λ t. not (has (set S j true) t && same_vehicle H t i)) (λ t. not (has S t && same_vehicle H t i)) (window_count H) (λ t b. at t (ℕ_discrete t j))
      where
        none : (a b c : Bool) → c ≡ false → not (a && c) ≡ not (b && c)
        none true true c e = refl
        none true false c e = rw e
        none false true c e = rw e
        none false false c e = refl

        at : (t : ℕ) → Dec (t ≡ j) → not (has (set S j true) t && same_vehicle H t i) ≡ not (has S t && same_vehicle H t i)
        at t (yes q) = none (has (set S j true) t) (has S t) (same_vehicle H t i) (fails (same_vehicle H t i) (λ e. d (sym (ap (vehicle H) (sym q) ∙ vehicle_is H t i e))))
        at t (no q) = ap (λ (b : Bool). not (b && same_vehicle H t i)) (get_or-set_other S j t true false q)

    free_own : (i : ℕ) → vehicle H i ≡ vehicle H j → vehicle_free H (set S j true) i ≡ false
    unfolding vehicle_free
    free_own i e = every_fails (λ t. not (has (set S j true) t && same_vehicle H t i)) (window_count H) j l (rw (get_or-set_same S j true false (omega arith), is_vehicle H j i (sym e)))

    pub supplied_put : {used' : List ℕ} → WithWindow row used used' → Supplied H (set S j true) used'
    unfolding turn_row
    supplied_put {used'} w =
        record {
          places = w.places ∙ s.places;
          minutes = λ m h. minute m h (dec_lt m (H.windows.start j)) (dec_lt m (H.windows.end j));
          vehicles = λ i h. vehicle_there i h (ℕ_discrete (vehicle H i) (vehicle H j));
        }
      where
        minute : (m : ℕ) → m < shift_minutes → Dec (m < H.windows.start j) → Dec (m < H.windows.end j) → get_or used' m 0 ≡ drawn_at H (set S j true) m
        minute m h (yes p) d = omega (arith, w.earlier m p, s.minutes m h, drawn_then m, not_charging m (λ e. omega (arith, charges_in H m j e)))
        minute m h (no p) (yes q) = omega (arith, w.drawing m (omega arith) q, s.minutes m h, drawn_then m, draw_at_charging H m j (in_charges H m j (omega arith) q))
        minute m h (no p) (no q) = omega (arith, w.later m (omega arith) h, s.minutes m h, drawn_then m, not_charging m (λ e. omega (arith, charges_in H m j e)))

        vehicle_there : (i : ℕ) → i < window_count H → Dec (vehicle H i ≡ vehicle H j) → eqb (get_or used' (shift_minutes + vehicle H i) 0) 0 ≡ vehicle_free H (set S j true) i
        vehicle_there i h (yes q) = rw (q, w.there) (sym (free_own i q))
        vehicle_there i h (no q) = rw (w.others (vehicle H i) q) (s.vehicles i h ∙ sym (free_other i q))

-- ---- none is chosen yet

module _ (H : Hall) (S : List Bool) (e : (t : ℕ) → has S t ≡ false) where
  nothing_chosen : (n : ℕ) (f : ℕ → ℕ) → chosen n S f ≡ 0
  unfolding chosen
  nothing_chosen zero f = refl
  nothing_chosen (suc n) f = rw (e n) (omega (arith, nothing_chosen n f))

  nothing_drawn : (m : ℕ) → drawn_at H S m ≡ 0
  unfolding drawn_at
  nothing_drawn m = nothing_chosen (window_count H) (draw_at H m)

  all_free : (j : ℕ) → vehicle_free H S j ≡ true
  unfolding vehicle_free
  all_free j = every_of (λ t. not (has S t && same_vehicle H t j)) (window_count H) (λ t l. rw (e t))

pub supplied_none : (H : Hall) (n : ℕ) {S : List Bool} → S ≡ replicate n false → Supplied H S (replicate used_places 0)
supplied_none H n q =
    rw q
    (record {
      places = length-replicate {A = ℕ} used_places 0;
      minutes = λ m h. zeros_at used_places m ∙ sym (nothing_drawn H (replicate n false) unchosen m);
      vehicles = λ j h. rw (zeros_at used_places (shift_minutes + vehicle H j)) (sym (all_free H (replicate n false) unchosen j));
    })
  where
    unchosen : (t : ℕ) → has (replicate n false) t ≡ false
    unchosen t = fails (has (replicate n false) t) (none_chosen n t)
