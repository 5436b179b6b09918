-- A look at the prices by its cases, each premise in the form in which the code's calls and tests leave it. Assumes nothing.
use Prim.Native.Nat.{ℕ, zero, suc, ◌+◌, ◌-◌, ◌*◌, ◌/◌, ◌≤◌, ◌<◌}
use mathlib.Core.Path.{◌≡◌, refl, sym, ap, ◌∙◌}
use mathlib.Core.Logic.{◌≢◌}
use mathlib.Core.Bool.{false, cond}
use mathlib.Core.List.{List, [], ◌∷◌}
use native.Mathlib.Omega.{arith}
use native.Mathlib.Nat.{mul-le-mul}
use native.Mathlib.Numerals.{add-one}
use native.Mathlib.Decide.{dec_lt, ℕ_discrete}
use mir.Syntax.{w16, w32}
use mir.Val.{Fits}
use lib.Dec.{ltb, eqb}
use lib.ListN.{length, get_or, set, take, drop, replicate, length-set, length-drop, length-replicate}
use lib.Seq.{get_or-set_same, get_or-set_other, get_or-take, get_or-drop, length-take-le}
use borrow.Author.Tests.{eq-eqb, ne_eqb, lt-ltb, le-ltb, lt-leb, le-leb}
use Rattle.lists.specs.Lists.{sum_over, below}
use Rattle.lists.proofs.Sums.{sum_same}
use Rattle.turn.specs.Turn.{shift_minutes, most_worth}
use Rattle.best_spec.specs.Table.{Best, no_turns, greater}
use Rattle.sheet.specs.Kind.{most_turns}
use Rattle.choice_map.proofs.Clean.{zeros_at}
use Rattle.instance.specs.declared.ways.Row.{Row}
use Rattle.instance.specs.Columns.{row_in}
use Rattle.instance.proofs.Rows.{count_is, slope_at, groomer_at, start_at, end_at, worth_at}
use Rattle.charge_spec.specs.Hall.{most_units, most_vehicles, Hall, vehicle, charges_at}
use Rattle.charge_spec.proofs.Windows.{in_charges}
use Rattle.hall_by_prices_spec.specs.Prices.{price_parts, minute_price, minutes_cost, window_pays, window_counts, alone, richest_of, vehicle_best, supply_cost, hall_limit}
use Rattle.limit_spec.specs.Prices.{most_price}
use Rattle.hall_look.specs.declared.HallSize.{HallSize}
use Rattle.hall_look.specs.Look.{vehicle_places, hall_for, prices_below, row_counts, bests_sum, window_before, HallPosed, MinuteSums, WindowRow, Bests, WindowsTaken}
use Rattle.hall_look.proofs.SumCases.{below_more}

-- ---- what a window's minutes cost, by sums

less : (a b c : ℕ) → a + b ≡ c → a ≡ c - b
less a b c e = omega arith

module _ (H : Hall) (prices : List ℕ) (t : ℕ) where
  abbrev start : ℕ
  start = H.windows.start t

  abbrev end : ℕ
  end = H.windows.end t

  -- what its minutes below n cost
  abbrev cost_to : ℕ → ℕ
  cost_to n = sum_over (λ m. cond (charges_at H m t) (minute_price prices m) 0) (below n)

  free_before : (m : ℕ) → m < start → charges_at H m t ≡ false
  unfolding charges_at
  free_before m l = rw (lt-leb start m l)

  free_after_lem : (m : ℕ) → start ≤ m → end ≤ m → charges_at H m t ≡ false
  unfolding charges_at
  free_after_lem m a b = rw (le-leb start m a, le-ltb m end b)

  cost_before : (n : ℕ) → n ≤ start → cost_to n ≡ 0
  cost_before zero h = refl
  cost_before (suc n) h = rw (free_before n (omega arith)) (omega (arith, cost_before n (omega arith)))

  cost_during : (n : ℕ) → start ≤ n → n ≤ end → cost_to n + prices_below prices start ≡ prices_below prices n
  cost_during zero a b = let z : start ≡ 0 = omega arith in rw z (omega arith)
  cost_during (suc n) a b = go (dec_lt n start) (λ l m. cost_during n l m)
    where
      go : Dec (n < start) → (start ≤ n → n ≤ end → cost_to n + prices_below prices start ≡ prices_below prices n) → cost_to (suc n) + prices_below prices start ≡ prices_below prices (suc n)
      go (yes l) ih = let z : start ≡ suc n = omega arith in let c = cost_before (suc n) (omega arith) in omega (arith, c, ap (prices_below prices) z)
      go (no l) ih =
          let k : prices_below prices (suc n) ≡ minute_price prices n + prices_below prices n = ap (prices_below prices) (sym (add-one n)) ∙ below_more prices n in
          rw (in_charges H n t (omega arith) (omega arith)) (omega (arith, ih (omega arith) (omega arith), k))

  cost_after : (n : ℕ) → start ≤ end → end ≤ n → cost_to n + prices_below prices start ≡ prices_below prices end
  cost_after zero a b = let z : end ≡ 0 = omega arith in let c = cost_during 0 (omega arith) (omega arith) in c ∙ ap (prices_below prices) (sym z)
  cost_after (suc n) a b = go (ℕ_discrete end (suc n)) (λ l. cost_after n a l)
    where
      go : Dec (end ≡ suc n) → (end ≤ n → cost_to n + prices_below prices start ≡ prices_below prices end) → cost_to (suc n) + prices_below prices start ≡ prices_below prices end
      go (yes e) ih = cost_during (suc n) (omega arith) (omega arith) ∙ ap (prices_below prices) (sym e)
      go (no e) ih = rw (free_after_lem n (omega arith) (omega arith)) (omega (arith, ih (omega arith)))

  cost_is : start ≤ end → end ≤ shift_minutes → minutes_cost H prices t ≡ prices_below prices end - prices_below prices start
  unfolding minutes_cost
  cost_is a b = less (cost_to shift_minutes) (prices_below prices start) (prices_below prices end) (cost_after shift_minutes a b)

-- ---- the counts

module _ (h : HallSize) (cols : List ℕ) (q : HallPosed h cols) where
  pub few_windows : h.size.count ≤ most_turns
  few_windows = q.held.held.few

  pub window_inside : {t : ℕ} → t < h.size.count → t < most_turns
  window_inside l = omega (arith, few_windows)

  pub window_row : (t : ℕ) {a : Row} → t < h.size.count → a ≡ row_in cols t → WindowRow a
  window_row t {a} l e =
      record {
        draw = omega (arith, groomer_at h.size cols t l e, q.held.draws t l, q.held.units_to);
        starts = omega (arith, start_at h.size cols t l e, end_at h.size cols t l e, q.held.held.starts t l);
        ends = omega (arith, end_at h.size cols t l e, q.held.held.ends t l);
        worth = omega (arith, worth_at h.size cols t l e, q.held.held.worths t l);
        vehicle = omega (arith, slope_at h.size cols t l e, q.held.vehicles t l);
      }

  pub window_vehicle : (t : ℕ) {a : Row} {v : ℕ} → t < h.size.count → a ≡ row_in cols t → v ≡ a.slope → v ≤ most_vehicles
  window_vehicle t l e f = omega (arith, f, slope_at h.size cols t l e, q.held.vehicles t l)

  row_counts_lem : (prices : List ℕ) (t : ℕ) {a : Row} → t < h.size.count → a ≡ row_in cols t → row_counts prices a ≡ window_counts (hall_for h cols) prices t
  unfolding row_counts window_counts window_pays
  row_counts_lem prices t l e =
      let c = cost_is (hall_for h cols) prices t (omega (arith, q.held.held.starts t l)) (q.held.held.ends t l) in
      rw (c, worth_at h.size cols t l e, groomer_at h.size cols t l e, start_at h.size cols t l e, end_at h.size cols t l e)

pub counted_fits : {x : ℕ} → x ≤ most_worth → Fits w16 x
counted_fits l = omega arith

-- ---- the vehicles' best windows

module _ (H : Hall) (counts : ℕ → ℕ) (v k : ℕ) where
  richest_next : richest_of H counts v (k + 1) ≡ greater (richest_of H counts v k) (cond (eqb (vehicle H k) v) (alone counts k) no_turns)
  unfolding richest_of
  richest_next = rw (add-one k)

  -- a window of another vehicle, or one that counts for no more
  richest_other : vehicle H k ≢ v → richest_of H counts v (k + 1) ≡ richest_of H counts v k
  unfolding greater
  richest_other d = richest_next ∙ rw (ne_eqb (vehicle H k) v d, le-ltb (richest_of H counts v k).worth 0 (omega arith))

  richest_no_more : vehicle H k ≡ v → counts k ≤ (richest_of H counts v k).worth → richest_of H counts v (k + 1) ≡ richest_of H counts v k
  unfolding greater
  richest_no_more e l = richest_next ∙ rw (eq-eqb (vehicle H k) v e, le-ltb (richest_of H counts v k).worth (counts k) l)

  richest_taken : vehicle H k ≡ v → (richest_of H counts v k).worth < counts k → richest_of H counts v (k + 1) ≡ alone counts k
  unfolding greater
  richest_taken e l = richest_next ∙ rw (eq-eqb (vehicle H k) v e, lt-ltb (richest_of H counts v k).worth (counts k) l)

window_next : {t : ℕ} → window_before (t + 1) ≡ t ∷ []
unfolding window_before
window_next {t} = rw (add-one t)

module _ (h : HallSize) (cols : List ℕ) (q : HallPosed h cols) (prices most taken : List ℕ) where
  abbrev H : Hall
  H = hall_for h cols

  pub bests_start : most ≡ replicate vehicle_places 0 → taken ≡ replicate vehicle_places 0 → Bests H prices 0 most taken
  unfolding richest_of window_before
  bests_start e f =
      record {
        places = ap length e ∙ length-replicate {A = ℕ} vehicle_places 0;
        places_too = ap length f ∙ length-replicate {A = ℕ} vehicle_places 0;
        values = λ v l. rw e (zeros_at vehicle_places v);
        windows = λ v l. rw (f, zeros_at vehicle_places v);
      }

  module _ {t : ℕ} {a : Row} (b : Bests H prices t most taken) (l : t < h.size.count) (e : a ≡ row_in cols t) {x : ℕ} (f : x ≡ row_counts prices a) where
    vehicle_is : vehicle H t ≡ a.slope
    vehicle_is = sym (slope_at h.size cols t l e)

    vehicle_to : a.slope ≤ most_vehicles
    vehicle_to = omega (arith, vehicle_is, q.held.vehicles t l)

    in_most : a.slope < length most
    in_most = omega (arith, b.places, vehicle_to)

    in_taken : a.slope < length taken
    in_taken = omega (arith, b.places_too, vehicle_to)

    counts_is : window_counts H prices t ≡ x
    counts_is = sym (f ∙ row_counts_lem h cols q prices t l e)

    bests_taken : get_or most a.slope 0 < x → Bests H prices (t + 1) (set most a.slope (x)) (set taken a.slope (t + 1))
    bests_taken m =
        record {
          places = length-set most a.slope (x) ∙ b.places;
          places_too = length-set taken a.slope (t + 1) ∙ b.places_too;
          values = λ v z. worth v z (ℕ_discrete v a.slope);
          windows = λ v z. window v z (ℕ_discrete v a.slope);
        }
      where
        is : richest_of H (window_counts H prices) a.slope (t + 1) ≡ alone (window_counts H prices) t
        is = richest_taken H (window_counts H prices) a.slope t vehicle_is (omega (arith, b.values a.slope vehicle_to, counts_is))

        other : (v : ℕ) → v ≢ a.slope → richest_of H (window_counts H prices) v (t + 1) ≡ richest_of H (window_counts H prices) v t
        other v d = richest_other H (window_counts H prices) v t (λ z. d (sym z ∙ vehicle_is))

        worth : (v : ℕ) → v ≤ most_vehicles → Dec (v ≡ a.slope) → get_or (set most a.slope (x)) v 0 ≡ (richest_of H (window_counts H prices) v (t + 1)).worth
        worth v z (yes w) = rw w (get_or-set_same most a.slope (x) 0 in_most ∙ sym counts_is ∙ ap (λ (y : Best). y.worth) (sym is))
        worth v z (no w) = get_or-set_other most a.slope v (x) 0 w ∙ b.values v z ∙ ap (λ (y : Best). y.worth) (sym (other v w))

        window : (v : ℕ) → v ≤ most_vehicles → Dec (v ≡ a.slope) → window_before (get_or (set taken a.slope (t + 1)) v 0) ≡ (richest_of H (window_counts H prices) v (t + 1)).turns
        window v z (yes w) = rw w (ap window_before (get_or-set_same taken a.slope (t + 1) 0 in_taken) ∙ window_next ∙ ap (λ (y : Best). y.turns) (sym is))
        window v z (no w) = ap window_before (get_or-set_other taken a.slope v (t + 1) 0 w) ∙ b.windows v z ∙ ap (λ (y : Best). y.turns) (sym (other v w))

    bests_kept : x ≤ get_or most a.slope 0 → Bests H prices (t + 1) most taken
    bests_kept m =
        record {
          places = b.places;
          places_too = b.places_too;
          values = λ v z. b.values v z ∙ ap (λ (y : Best). y.worth) (sym (same v (ℕ_discrete v a.slope)));
          windows = λ v z. b.windows v z ∙ ap (λ (y : Best). y.turns) (sym (same v (ℕ_discrete v a.slope)));
        }
      where
        same : (v : ℕ) → Dec (v ≡ a.slope) → richest_of H (window_counts H prices) v (t + 1) ≡ richest_of H (window_counts H prices) v t
        same v (yes w) = richest_no_more H (window_counts H prices) v t (vehicle_is ∙ sym w) (rw w (omega (arith, b.values a.slope vehicle_to, counts_is)))
        same v (no w) = richest_other H (window_counts H prices) v t (λ z. w (sym z ∙ vehicle_is))

    pub bests_more : {v : ℕ} {most' taken' : List ℕ} → v ≡ a.slope → most' ≡ cond (ltb (get_or most v 0) x) (set most v x) most → taken' ≡ cond (ltb (get_or most v 0) x) (set taken v (t + 1)) taken → Bests H prices (t + 1) most' taken'
    bests_more g m n = rw (m, n, g) (go (dec_lt (get_or most a.slope 0) x))
      where
        go : Dec (get_or most a.slope 0 < x) → Bests H prices (t + 1) (cond (ltb (get_or most a.slope 0) x) (set most a.slope x) most) (cond (ltb (get_or most a.slope 0) x) (set taken a.slope (t + 1)) taken)
        go (yes z) = rw (lt-ltb (get_or most a.slope 0) x z) (bests_taken z)
        go (no z) = let k : x ≤ get_or most a.slope 0 = omega arith in rw (le-ltb (get_or most a.slope 0) x k) (bests_kept k)

pub ruleset bests_cases = (window_inside, window_row, window_vehicle, counted_fits, bests_start, bests_more)

-- ---- the limit

-- the first k of n vehicles are summed up
pub record SummedBests (most : List ℕ) (n k sum_over : ℕ) : Type 0 where
  pub within : k ≤ n
  pub is : sum_over ≡ bests_sum most k
  pub small : sum_over ≤ k * most_price

module _ (most : List ℕ) (n : ℕ) (few : n ≤ most_vehicles) where
  pub sum_start : SummedBests most n 0 0
  unfolding bests_sum
  sum_start = record { within = omega arith; is = refl; small = omega arith }

  pub sum_more : {k sum_over x : ℕ} → SummedBests most n k sum_over → k < n → x ≡ get_or most (k + 1) 0 → x < 65536 → SummedBests most n (k + 1) (sum_over + x)
  unfolding bests_sum
  sum_more {k} {sum_over} {x} s l e h = record { within = omega arith; is = let z = s.is in rw (add-one k) (omega (arith, z, e)); small = omega (arith, s.small) }

-- the best windows of vehicles 1 to the last, as that part of the places
module _ (most : List ℕ) {n u : ℕ} (few : n ≤ most_vehicles) (w : length most ≡ vehicle_places) (e : u ≡ n) where
  own_long : length (take (u + 1 - 1) (drop 1 most)) ≡ n
  own_long = let l : u + 1 - 1 ≤ length (drop 1 most) = omega (arith, length-drop 1 most) in omega (arith, length-take-le (u + 1 - 1) (drop 1 most) l)

  module _ {k sum : ℕ} (s : SummedBests most n k sum) where
    module _ {x : ℕ} (l : k < length (take (u + 1 - 1) (drop 1 most))) (f : x ≡ get_or (take (u + 1 - 1) (drop 1 most)) k 0) (h : (i : ℕ) → get_or most i 0 < 65536) where
      own_inside : k < n
      own_inside = omega (arith, own_long)

      own_at : x ≡ get_or most (k + 1) 0
      own_at = let m : k < u + 1 - 1 = omega (arith, own_inside) in let q : 1 + k ≡ k + 1 = omega arith in f ∙ get_or-take (u + 1 - 1) (drop 1 most) k 0 m ∙ get_or-drop 1 most k 0 ∙ ap (λ (i : ℕ). get_or most i 0) q

      own_small : x < 65536
      own_small = omega (arith, own_at, h (k + 1))

      pub own_more : SummedBests most n (k + 1) (sum + x)
      own_more = sum_more most n few s own_inside own_at own_small

module _ (h : HallSize) (cols : List ℕ) (q : HallPosed h cols) (prices sums : List ℕ) (s : MinuteSums prices sums) where
  all_most : get_or sums shift_minutes 0 ≤ shift_minutes * most_price
  all_most = omega (arith, s.values shift_minutes (omega arith), s.most)

  whole_most : {u : ℕ} → u ≡ h.units → u * get_or sums shift_minutes 0 ≤ most_units * (shift_minutes * most_price)
  whole_most {u} e = let l : u ≤ most_units = omega (arith, e, q.held.units_to) in mul-le-mul l all_most

  pub supply_is : {u : ℕ} → u ≡ h.units → u * get_or sums shift_minutes 0 / price_parts ≡ supply_cost (hall_for h cols) prices
  unfolding supply_cost prices_below
  supply_is e = rw (e, s.values shift_minutes (omega arith))

  pub supply_most : {u : ℕ} → u ≡ h.units → u * get_or sums shift_minutes 0 / price_parts ≤ most_units * (shift_minutes * most_price) / price_parts
  supply_most {u} e = omega (arith, whole_most e)

pub ruleset supply_cases = (supply_is, supply_most)

module _ (h : HallSize) (cols : List ℕ) (q : HallPosed h cols) (prices most taken : List ℕ) (b : Bests (hall_for h cols) prices h.size.count most taken) where
  best_is : (v : ℕ) → richest_of (hall_for h cols) (window_counts (hall_for h cols) prices) v h.size.count ≡ vehicle_best (hall_for h cols) prices v
  unfolding vehicle_best
  best_is v = ap (richest_of (hall_for h cols) (window_counts (hall_for h cols) prices) v) (sym (count_is h.size cols))

  bests_are : (n : ℕ) → n ≤ most_vehicles → bests_sum most n ≡ sum_over (λ k. (vehicle_best (hall_for h cols) prices (k + 1)).worth) (below n)
  unfolding bests_sum
  bests_are n l = sum_same (λ k. get_or most (k + 1) 0) (λ k. (vehicle_best (hall_for h cols) prices (k + 1)).worth) n (λ k m. b.values (k + 1) (omega arith) ∙ ap (λ (x : Best). x.worth) (best_is (k + 1)))

  pub look_limit : {x y : ℕ} → x ≡ supply_cost (hall_for h cols) prices → y ≡ bests_sum most h.vehicles → x + y ≡ hall_limit (hall_for h cols) h.vehicles prices
  unfolding hall_limit
  look_limit e f = rw (e, f, bests_are h.vehicles q.vehicles)

  pub look_taken : WindowsTaken (hall_for h cols) prices taken
  look_taken = record { places = b.places_too; windows = λ v l. b.windows v l ∙ ap (λ (x : Best). x.turns) (best_is v) }

pub look_fits : {x y : ℕ} → x ≤ most_units * (shift_minutes * most_price) / price_parts → y ≤ most_vehicles * most_price → Fits w32 (x + y)
look_fits l m = omega arith

pub posed_vehicles : (h : HallSize) (cols : List ℕ) → HallPosed h cols → h.vehicles ≤ most_vehicles
posed_vehicles h cols q = q.vehicles

pub ruleset look_cases = (look_limit, look_taken, look_fits, posed_vehicles)
