-- The drivers' order and its runs by cases, in the form in which the code leaves them. Assumes nothing.
use Prim.Native.Nat.{ℕ, ◌+◌, ◌-◌, ◌*◌, ◌≤◌, ◌<◌}
use mathlib.Core.Path.{◌≡◌, refl, sym, ap, ◌∙◌}
use mathlib.Core.Bool.{Bool, true, false, cond, ◌&&◌}
use mathlib.Core.List.{List}
use native.Mathlib.Omega.{arith}
use native.Mathlib.Decide.{ℕ_discrete}
use lib.Dec.{ltb, eqb}
use lib.ListN.{length, get_or, set, length-set}
use lib.Seq.{get_or-set_same, get_or-set_other}
use borrow.Author.Tests.{eqb-true, eq-eqb, ltb-true}
use Rattle.lists.proofs.Bools.{and_1, and_2, and_of, not_both}
use Rattle.sheet.specs.Kind.{most_turns}
use Rattle.model.specs.Turns.{Turns}
use Rattle.instance.specs.declared.ways.Row.{Row}
use Rattle.instance.specs.declared.columns.Size.{Size}
use Rattle.instance.specs.Ways.{turn_row}
use Rattle.instance.specs.Columns.{column_places, row_in, within, turns_by, Held}
use Rattle.instance.proofs.Rows.{count_is, lengths_are}
use Rattle.best_spec.specs.Table.{turn_order}
use Rattle.best_table.specs.OrderAndTable.{placed_row, place_before, KeysFit, InTurnOrder, Befores}
use Rattle.best_table.proofs.OrderCases.{placed_is, placed_most, order_within}
use Rattle.shift_look.specs.declared.Extent.{Extent}
use Rattle.shift_look.specs.OrdersAndCounts.{by_drivers, turns_in, with_run, paid_from, paid_to, order_places, Driven, DriversPut, OneRun, RunStart, RunBefore, PlaceRun, PlaceRunsTo, PaidRun, Ordered}
use Rattle.shift_look.proofs.PaidRuns.{order_place, order_apart, run_again, run_new, run_none, run_is, pays_as}

-- ---- one place

module _ (p : Size) (cols : List ℕ) (held : Held p cols) (order : List ℕ) (o : InTurnOrder (turns_by p cols) order) where
  -- two rows of an order
  module _ (k i : ℕ) (hk : k < p.count) (hi : i < p.count) {a b : Row} (ea : a ≡ placed_row cols order k) (eb : b ≡ placed_row cols order i) where
    rows_one : (eqb a.groomer b.groomer && eqb a.end b.end) ≡ true → OneRun (turns_by p cols) k i
    unfolding turn_row
    rows_one q =
        let x = ea ∙ placed_is p cols held order o k hk in
        let y = eb ∙ placed_is p cols held order o i hi in
        let g = eqb-true a.groomer b.groomer (and_1 (eqb a.groomer b.groomer) (eqb a.end b.end) q) in
        let e = eqb-true a.end b.end (and_2 (eqb a.groomer b.groomer) (eqb a.end b.end) q) in
        record { groomer = sym (ap (λ (r : Row). r.groomer) x) ∙ g ∙ ap (λ (r : Row). r.groomer) y; end = sym (ap (λ (r : Row). r.end) x) ∙ e ∙ ap (λ (r : Row). r.end) y }

    one_rows : OneRun (turns_by p cols) k i → (eqb a.groomer b.groomer && eqb a.end b.end) ≡ true
    unfolding turn_row
    one_rows s =
        let x = ea ∙ placed_is p cols held order o k hk in
        let y = eb ∙ placed_is p cols held order o i hi in
        and_of (eqb a.groomer b.groomer) (eqb a.end b.end)
        (eq-eqb a.groomer b.groomer (ap (λ (r : Row). r.groomer) x ∙ s.groomer ∙ sym (ap (λ (r : Row). r.groomer) y)))
        (eq-eqb a.end b.end (ap (λ (r : Row). r.end) x ∙ s.end ∙ sym (ap (λ (r : Row). r.end) y)))

  module _ (i from : ℕ) (h : i < p.count) where
    module _ {a b : Row} {r : Bool} (d : i ≡ 0 → ⊥) (ea : a ≡ placed_row cols order (i - 1)) (eb : b ≡ placed_row cols order i) (er : r ≡ (eqb a.groomer b.groomer && eqb a.end b.end)) where
      pub start_again : r ≡ true → RunBefore (turns_by p cols) i from → RunStart (turns_by p cols) i from
      unfolding RunBefore
      start_again q s = run_again (turns_by p cols) i (omega arith) (omega (arith, count_is p cols)) from (rows_one (i - 1) i (omega arith) h ea eb (sym er ∙ q)) (s (omega arith))

      pub start_new : r ≡ false → RunStart (turns_by p cols) i i
      start_new q = run_new (turns_by p cols) i (omega arith) (omega (arith, count_is p cols)) (λ s. not_both (er ∙ one_rows (i - 1) i (omega arith) h ea eb s) q)

    pub last_place_lem : (i ≡ 0 → ⊥) → i - 1 < length order
    last_place_lem d = omega (arith, o.places, count_is p cols)

    pub last_most : (i ≡ 0 → ⊥) → get_or order (i - 1) 0 < most_turns
    last_most d = placed_most p cols held order o (i - 1) (omega arith)

    module _ {a : Row} (ea : a ≡ placed_row cols order i) where
      groomer_here : a.groomer ≡ (turns_by p cols).groomer (get_or (turn_order (turns_by p cols)) i 0)
      unfolding turn_row
      groomer_here = ap (λ (r : Row). r.groomer) (ea ∙ placed_is p cols held order o i h)

      pub place_none : a.groomer ≡ 0 → PlaceRun (turns_by p cols) i 0 0
      place_none e = run_none (turns_by p cols) i (sym groomer_here ∙ e)

      pub place_run : {to : ℕ} → (a.groomer ≡ 0 → ⊥) → to ≡ place_before (turns_by p cols) i → RunStart (turns_by p cols) i from → PlaceRun (turns_by p cols) i from to
      place_run d e s = rw e (run_is (turns_by p cols) i from (lengths_are p cols held) (omega (arith, count_is p cols)) (λ z. d (groomer_here ∙ z)) s)

pub ruleset start_cases = (start_again, start_new, last_place_lem, last_most)

pub ruleset place_cases = (place_none, place_run)

-- ---- all places

module _ (p : Size) (cols : List ℕ) where
  pub runs_start : (orders : List ℕ) → length orders ≡ order_places → PlaceRunsTo (turns_by p cols) orders orders 0
  runs_start orders e = record { places = e; front = λ k l. refl; turns = λ k l. absurd (omega arith); runs = λ k l. absurd (omega arith) }

  pub before_start : RunBefore (turns_by p cols) 0 0
  unfolding RunBefore
  before_start h = absurd (omega arith)

  pub before_more : (i : ℕ) {from : ℕ} → RunStart (turns_by p cols) i from → RunBefore (turns_by p cols) (i + 1) from
  unfolding RunBefore
  before_more i s h = let e : i + 1 - 1 ≡ i = omega arith in rw e s

  module _ (held : Held p cols) (order : List ℕ) (o : InTurnOrder (turns_by p cols) order) (old orders : List ℕ) (i : ℕ) (h : i < p.count) (w : PlaceRunsTo (turns_by p cols) old orders i) where
    turn_is : get_or order i 0 ≡ get_or (turn_order (turns_by p cols)) i 0
    turn_is = o.turns i (omega (arith, count_is p cols))

    turn_few : (k : ℕ) → k < p.count → get_or (turn_order (turns_by p cols)) k 0 < most_turns
    turn_few k l = omega (arith, order_within (turns_by p cols) k (omega (arith, count_is p cols)), count_is p cols, held.few)

    module _ (f t : ℕ) (r : PlaceRun (turns_by p cols) i f t) where
      abbrev T : ℕ
      T = get_or (turn_order (turns_by p cols)) i 0

      abbrev o₁ : List ℕ
      o₁ = set orders (2 * most_turns + i) T

      abbrev o₂ : List ℕ
      o₂ = set o₁ (3 * most_turns + T) f

      abbrev o₃ : List ℕ
      o₃ = set o₂ (4 * most_turns + T) t

      size₁ : length o₁ ≡ order_places
      size₁ = length-set orders (2 * most_turns + i) T ∙ w.places

      size₂ : length o₂ ≡ order_places
      size₂ = length-set o₁ (3 * most_turns + T) f ∙ size₁

      -- another place is as it was
      kept : (k : ℕ) → (k ≡ 2 * most_turns + i → ⊥) → (k ≡ 3 * most_turns + T → ⊥) → (k ≡ 4 * most_turns + T → ⊥) → get_or o₃ k 0 ≡ get_or orders k 0
      kept k a b c = get_or-set_other o₂ (4 * most_turns + T) k t 0 c ∙ get_or-set_other o₁ (3 * most_turns + T) k f 0 b ∙ get_or-set_other orders (2 * most_turns + i) k T 0 a

      few : T < most_turns
      few = turn_few i h

      runs_next : PlaceRunsTo (turns_by p cols) old o₃ (i + 1)
      runs_next =
          record {
            places = length-set o₂ (4 * most_turns + T) t ∙ size₂;
            front = λ k l. kept k (omega arith) (omega arith) (omega arith) ∙ w.front k l;
            turns = λ k l. turn_at k l (ℕ_discrete k i);
            runs = λ k l. run_at k l (ℕ_discrete k i);
          }
        where
          turn_at : (k : ℕ) → k < i + 1 → Dec (k ≡ i) → get_or o₃ (2 * most_turns + k) 0 ≡ get_or (turn_order (turns_by p cols)) k 0
          turn_at k l (yes d) =
              rw d (get_or-set_other o₂ (4 * most_turns + T) (2 * most_turns + i) t 0 (omega (arith, held.few)) ∙ get_or-set_other o₁ (3 * most_turns + T) (2 * most_turns + i) f 0 (omega (arith, held.few)) ∙ get_or-set_same orders (2 * most_turns + i) T 0 (omega (arith, w.places, held.few)))
          turn_at k l (no d) = kept (2 * most_turns + k) (omega arith) (omega (arith, held.few)) (omega (arith, held.few)) ∙ w.turns k (omega arith)

          run_at : (k : ℕ) → k < i + 1 → Dec (k ≡ i) → PlaceRun (turns_by p cols) k (get_or o₃ (3 * most_turns + get_or (turn_order (turns_by p cols)) k 0) 0) (get_or o₃ (4 * most_turns + get_or (turn_order (turns_by p cols)) k 0) 0)
          run_at k l (yes d) =
              rw (d, get_or-set_other o₂ (4 * most_turns + T) (3 * most_turns + T) t 0 (omega arith), get_or-set_same o₁ (3 * most_turns + T) f 0 (omega (arith, size₁, few)), get_or-set_same o₂ (4 * most_turns + T) t 0 (omega (arith, size₂, few))) r
          run_at k l (no d) =
              let x = get_or (turn_order (turns_by p cols)) k 0 in
              let m : x < most_turns = turn_few k (omega arith) in
              let a : x ≡ T → ⊥ = order_apart (turns_by p cols) k i (omega arith) (omega (arith, count_is p cols)) in
              rw (kept (3 * most_turns + x) (omega (arith, held.few)) (λ z. a (omega arith)) (omega (arith, few)), kept (4 * most_turns + x) (omega (arith, held.few)) (omega (arith, few)) (λ z. a (omega arith)))
              (w.runs k (omega arith))

    pub runs_more : {orders' : List ℕ} {f t : ℕ} → PlaceRun (turns_by p cols) i f t → orders' ≡ with_run orders i (get_or order i 0) f t → PlaceRunsTo (turns_by p cols) old orders' (i + 1)
    runs_more {orders'} {f} {t} r e = rw (e, turn_is) (runs_next f t r)

    pub runs_turn : get_or order i 0 < most_turns
    runs_turn = omega (arith, turn_is, turn_few i h)

    pub runs_place : i < length order
    runs_place = omega (arith, o.places, count_is p cols)

    pub runs_few : i < most_turns
    runs_few = omega (arith, held.few)

pub ruleset runs_cases = (runs_start, before_start, runs_turn, runs_place, runs_few)

-- ---- drivers in the groomers' place

module _ (p : Size) (cols room : List ℕ) (held : Held p cols) (w : DriversPut cols room p.count) where
  field_same : (f g : Row → ℕ) → ((k : ℕ) → k < p.count → f (row_in room k) ≡ g (row_in cols k)) → (t : ℕ) → within p.count (λ k. f (row_in room k)) t ≡ within p.count (λ k. g (row_in cols k)) t
  unfolding within
  field_same f g e t = go (ltb t p.count) refl
    where
      go : (b : Bool) → ltb t p.count ≡ b → cond b (f (row_in room t)) 0 ≡ cond b (g (row_in cols t)) 0
      go true q = e t (ltb-true t p.count q)
      go false q = refl

  pub drivers_turns : turns_by p room ≡ by_drivers (turns_by p cols)
  unfolding turns_by by_drivers row_in
  drivers_turns = λ j. record {
    count = p.count;
    gap = p.gap;
    slope = λ t. field_same (λ (r : Row). r.slope) (λ (r : Row). r.slope) (λ k l. w.front k (omega (arith, held.few))) t j;
    groomer = λ t. field_same (λ (r : Row). r.groomer) (λ (r : Row). r.driver) (λ k l. w.drivers k l) t j;
    start = λ t. field_same (λ (r : Row). r.start) (λ (r : Row). r.start) (λ k l. w.back (2 * most_turns + k) (omega arith)) t j;
    end = λ t. field_same (λ (r : Row). r.end) (λ (r : Row). r.end) (λ k l. w.back (3 * most_turns + k) (omega arith)) t j;
    worth = λ t. field_same (λ (r : Row). r.worth) (λ (r : Row). r.worth) (λ k l. w.back (4 * most_turns + k) (omega arith)) t j;
    driver = λ t. field_same (λ (r : Row). r.driver) (λ (r : Row). r.driver) (λ k l. w.back (5 * most_turns + k) (omega arith)) t j;
  }

-- ---- the whole

module _ (p : Size) (cols room : List ℕ) (e : turns_by p room ≡ by_drivers (turns_by p cols)) where
  pub room_held : Held p cols → length room ≡ column_places → Held p room
  unfolding by_drivers
  room_held h l =
      record {
        places = l;
        few = h.few;
        slopes = λ t k. rw e (h.slopes t k);
        starts = λ t k. rw e (h.starts t k);
        ends = λ t k. rw e (h.ends t k);
        worths = λ t k. rw e (h.worths t k);
      }

  pub room_numbered : Driven p cols → KeysFit p room
  unfolding by_drivers
  room_numbered d = record { groomers = λ t k. rw e (d.drivers t k) }

module _ (T : Turns) (few : T.count ≤ most_turns) (lengths : (t : ℕ) → t < T.count → T.start t < T.end t) (old orders : List ℕ) (o : InTurnOrder T old) (b : Befores T old T.count) (w : PlaceRunsTo (by_drivers T) old orders T.count) where
  drivers_count : (by_drivers T).count ≡ T.count
  unfolding by_drivers
  drivers_count = refl

  drivers_named : (t : ℕ) → (by_drivers T).groomer t ≡ T.driver t
  unfolding by_drivers
  drivers_named t = refl

  paid_run : (t : ℕ) → t < T.count → PaidRun T t (paid_from orders t) (paid_to orders t)
  paid_run t h =
      let (i, l, q) = order_place (by_drivers T) t (omega (arith, drivers_count)) in
      let r = rw q at (w.runs i (omega (arith, drivers_count))) in
      record {
        none = λ z. r.none (rw q (drivers_named t ∙ z));
        rising = r.rising;
        within = omega (arith, r.within, drivers_count);
        pays = λ j k.
            let u = get_or (turn_order (by_drivers T)) j 0 in
            let m : u < T.count = omega (arith, order_within (by_drivers T) j (omega (arith, drivers_count)), drivers_count) in
            let (to, back) = pays_as T u t (lengths u m) in
            let (x, y) = rw q at (r.pays j (omega (arith, drivers_count))) in
            (λ z. x (to z), λ z. back (y z));
      }

  orders_are : Ordered T orders
  orders_are =
      record {
        places = w.places;
        groomers = λ i h. w.front i (omega arith) ∙ o.turns i h;
        before = λ i h. w.front (most_turns + i) (omega arith) ∙ b.values i h;
        drivers = λ j h. w.turns j h;
        runs = paid_run;
      }

pub orders_held : (e : Extent) (cols room old orders : List ℕ) → turns_by e.size room ≡ by_drivers (turns_in e cols) → Held e.size cols → InTurnOrder (turns_in e cols) old → Befores (turns_in e cols) old e.size.count
    → PlaceRunsTo (turns_by e.size room) old orders e.size.count → Ordered (turns_in e cols) orders
unfolding turns_by
orders_held e cols room old orders q h o b w = orders_are (turns_by e.size cols) h.few h.starts old orders o b (rw q at w)
