-- Moved prices and changes, by cases in the form in which the code leaves them. Assumes nothing.
use Prim.Native.Nat.{ℕ, suc, ◌+◌, ◌-◌, ◌*◌, ◌/◌, ◌≤◌, ◌<◌, max, min}
use mathlib.Core.Path.{◌≡◌, refl, sym, ap, ◌∙◌}
use mathlib.Core.Logic.{◌≢◌}
use mathlib.Core.Bool.{Bool, cond, false}
use mathlib.Core.List.{List, ◌++◌}
use native.Mathlib.Omega.{arith}
use native.Mathlib.Nat.{suc-mul}
use native.Mathlib.Decide.{dec_lt, ℕ_discrete}
use lib.Dec.{ltb, eqb}
use lib.ListN.{length, get_or, set, length-set, get_or-append}
use lib.Seq.{get_or-set_same, get_or-set_other, get_or-append-add, ext_get_or}
use borrow.Author.Tests.{lt-ltb, le-ltb, eq-eqb, ne_eqb}
use Rattle.lists.specs.Lists.{tab}
use Rattle.lists.proofs.Sums.{all_map, all_at, tab_length, tab_at}
use Rattle.turn.specs.Turn.{most_worth}
use Rattle.sheet.specs.Kind.{most_turns}
use Rattle.model.specs.Turns.{Turns, NoDrivers}
use Rattle.instance.specs.Columns.{row_in, turns_by}
use Rattle.instance.proofs.Rows.{slope_at}
use Rattle.limit_spec.specs.Prices.{slope_price, turn_price, most_price}
use Rattle.shift_look.specs.declared.Extent.{Extent}
use Rattle.shift_look.specs.OrdersAndCounts.{turns_in, drivers_turn, greatest_driver, Ordered, Priced}
use Rattle.shift_look.proofs.DriverlessCases.{none_named}
use Rattle.refine_spec.specs.Shift.{highest_price, slope_payers, turn_payers, moved_price, turn_change, moved_prices}
use Rattle.refine_spec.proofs.Shift.{moved_length}
use Rattle.shift_look.proofs.SumCases.{priced_slopes}
use Rattle.shift_moves.specs.Moves.{number_behind, times_taken, payers_before, nobody, payers_at, payers_after, slope_payers_in, turn_payers_in, own_place, place_behind, turn_price_place, Taken, TurnsOf, SmallNumbers, Times, PaidRuns, Payers, FewPayers, EachOnce, MovedBy, MovedFor}
use Rattle.shift_moves.proofs.DriversOrder.{turn_place_lem, payers_are, no_payers}
use Rattle.shift_moves.proofs.PayerCases.{sum_equal, times_most, payers_most}

-- ---- the change

pub half_is : (c : ℕ) {r : ℕ} → r ≡ max (c / 2) 1 → r ≡ turn_change c
unfolding turn_change
half_is c e = omega (arith, e)

pub half_most : (c : ℕ) {r : ℕ} → c ≤ most_worth → r ≡ max (c / 2) 1 → r ≤ most_worth
half_most c l e = omega arith

pub ruleset change_cases = (half_is, half_most)

-- ---- one price

-- without a payer a price falls, with one it stays, with more it rises; each by few facts, since omega is dear with many
module _ (change payers price : ℕ) {a b : ℕ} (e : a ≡ price) {l m r : ℕ} (g : l ≡ a + b * change - change) (k : r ≡ min l m) where
  fallen : b ≡ 0 → a < 65536 → m ≡ most_price → r ≡ price - change
  fallen z n h =
      let none : b * change ≡ 0 * change = ap (λ (x : ℕ). x * change) z in
      let low : l ≤ m = omega (arith, e, none, n, g, h) in
      omega (arith, e, none, g, low, k)

  kept : b ≡ 1 → a < 65536 → m ≡ most_price → r ≡ price
  kept d n h =
      let one : b * change ≡ 1 * change = ap (λ (x : ℕ). x * change) d in
      let same : l ≡ price = omega (arith, e, one, g) in
      omega (arith, e, n, same, h, k)

  risen : b ≡ payers → payers ≢ 0 → m ≡ highest_price → r ≡ min highest_price (price + (payers - 1) * change)
  risen f z h =
      let more : b ≡ suc (payers - 1) = omega (arith, f, z) in
      let several : b * change ≡ (payers - 1) * change + change = ap (λ (x : ℕ). x * change) more ∙ suc-mul (payers - 1) change in
      let same : l ≡ price + (payers - 1) * change = omega (arith, e, several, g) in
      omega (arith, same, h, k)

module _ (change payers price : ℕ) {a b : ℕ} (e : a ≡ price) (f : b ≡ payers) where
  pub moved_is : {l m r : ℕ} → a < 65536 → l ≡ a + b * change - change → m ≡ cond (ltb payers 2) most_price highest_price → r ≡ min l m → r ≡ moved_price change payers price
  unfolding moved_price
  moved_is {l} {m} {r} n g h k = go (ℕ_discrete payers 0) (ℕ_discrete payers 1)
    where
      go : Dec (payers ≡ 0) → Dec (payers ≡ 1) → r ≡ cond (eqb payers 0) (price - change) (cond (eqb payers 1) price (min highest_price (price + (payers - 1) * change)))
      go (yes z) d = rw (eq-eqb payers 0 z) (fallen change payers price e g k (f ∙ z) n (rw (lt-ltb payers 2 (omega (arith, z))) at h))
      go (no z) (yes d) = rw (ne_eqb payers 0 z, eq-eqb payers 1 d) (kept change payers price e g k (f ∙ d) n (rw (lt-ltb payers 2 (omega (arith, d))) at h))
      go (no z) (no d) = rw (ne_eqb payers 0 z, ne_eqb payers 1 d) (risen change payers price e g k f z (rw (le-ltb payers 2 (omega (arith, z, d))) at h))

pub ruleset moved_cases = (moved_is)

-- ---- prices at some places

module _ (change : ℕ) (payers place : ℕ → ℕ) (old : List ℕ) where
  moved_more : (n : ℕ) (new : List ℕ) → place n < length old → ((i : ℕ) → i < n → place i ≢ place n) → MovedBy change payers place n old new →
      MovedBy change payers place (n + 1) old (set new (place n) (moved_price change (payers n) (get_or new (place n) 0)))
  moved_more n new l apart s =
      let v = moved_price change (payers n) (get_or new (place n) 0) in
      record {
        size = length-set new (place n) v ∙ s.size;
        done = λ i h. at i h (ℕ_discrete i n);
        others = λ x h. get_or-set_other new (place n) x v 0 (λ e. h n (omega arith) (sym e)) ∙ s.others x (λ i k. h i (omega arith));
      }
    where
      at : (i : ℕ) → i < n + 1 → Dec (i ≡ n) → get_or (set new (place n) (moved_price change (payers n) (get_or new (place n) 0))) (place i) 0 ≡ moved_price change (payers i) (get_or old (place i) 0)
      at i h (yes e) =
          rw e (get_or-set_same new (place n) (moved_price change (payers n) (get_or new (place n) 0)) 0 (omega (arith, s.size)) ∙ ap (moved_price change (payers n)) (s.others (place n) apart))
      at i h (no e) = get_or-set_other new (place n) (place i) (moved_price change (payers n) (get_or new (place n) 0)) 0 (apart i (omega arith)) ∙ s.done i (omega arith)

  -- by payers that are the same
  moved_same : (payers' : ℕ → ℕ) (n : ℕ) (new : List ℕ) → ((i : ℕ) → i < n → payers i ≡ payers' i) → MovedBy change payers place n old new → MovedBy change payers' place n old new
  moved_same payers' n new e s = record { size = s.size; done = λ i l. s.done i l ∙ ap (λ (k : ℕ). moved_price change k (get_or old (place i) 0)) (e i l); others = s.others }

-- ---- the slopes' prices

module _ (change slopes : ℕ) (payers old : List ℕ) where
  -- the first k of them are moved
  pub record SlopesMoved (new : List ℕ) (k : ℕ) : Type 0 where
    pub within : k ≤ slopes
    pub moved : MovedBy change (payers_after payers) own_place k old new

  module _ (new : List ℕ) {k : ℕ} (s : SlopesMoved new k) where
    pub slopes_few : k < slopes → FewPayers (slopes + 1) payers → get_or payers (k + 1) 0 ≤ most_turns
    unfolding FewPayers
    slopes_few h f = f (k + 1) (omega arith)

module _ (e : Extent) (cols taken prices : List ℕ) (w : Priced e cols prices) where
  slope_number : (t : ℕ) → t < e.size.count → number_behind cols 0 t ≡ (turns_in e cols).slope t
  unfolding row_in
  slope_number t h = let z : 0 + t ≡ t = omega arith in rw z (slope_at e.size cols t h refl)

  module _ (l : Taken e.size.count taken) where
    pub slope_numbers : SmallNumbers taken cols 0
    slope_numbers =
        record {
          few = omega (arith, l.few, w.few);
          early = omega arith;
          turns = λ i h. omega (arith, all_at l.inside i h, w.few);
          within = λ i h. omega (arith, all_at l.inside i h, w.places, w.few);
          small = λ i h. let m : get_or taken i 0 < e.size.count = all_at l.inside i h in omega (arith, slope_number (get_or taken i 0) m, w.numbers (get_or taken i 0) m, w.few_slopes);
        }

    module _ (times : List ℕ) (ts : Times taken (number_behind cols 0) times) where
      slope_payers_lem : (k : ℕ) → k < e.slopes → payers_after times k ≡ slope_payers_in e cols taken k
      unfolding times_taken
      slope_payers_lem k h =
          ts.values (k + 1) (omega (arith, w.few_slopes))
          ∙ sum_equal (λ t. cond (eqb (number_behind cols 0 t) (k + 1)) 1 0) (λ t. cond (eqb ((turns_in e cols).slope t) (k + 1)) 1 0) (all_map (λ t m. ap (λ (x : ℕ). cond (eqb x (k + 1)) 1 0) (slope_number t m)) l.inside)

      pub slope_few : FewPayers (e.slopes + 1) times
      unfolding FewPayers
      slope_few k h = omega (arith, ts.values k (omega (arith, w.few_slopes)), times_most taken (number_behind cols 0) k, l.few, w.few)

      pub slope_moved_lem : (change : ℕ) (new : List ℕ) → MovedBy change (payers_after times) own_place e.slopes prices new → MovedBy change (slope_payers_in e cols taken) own_place e.slopes prices new
      slope_moved_lem change new s = moved_same change (payers_after times) own_place prices (slope_payers_in e cols taken) e.slopes new slope_payers_lem s

  pub slope_within : e.slopes ≤ length prices
  slope_within = omega (arith, w.list)

pub ruleset slope_cases = (slope_numbers, slope_few, slope_moved_lem, slope_within)

-- ---- the turns' prices

module _ (change : ℕ) (e : Extent) (payers : ℕ → ℕ) (old : List ℕ) where
  -- those of the first u turns are moved
  pub record TurnsMoved (new : List ℕ) (u : ℕ) : Type 0 where
    pub within : u ≤ e.size.count
    pub moved : MovedBy change payers (place_behind e.slopes) u old new

  module _ (new : List ℕ) {u : ℕ} (s : TurnsMoved new u) where
    pub turns_long : length new ≡ length old
    turns_long = s.moved.size

    pub turns_done : e.size.count ≤ u → MovedBy change payers (place_behind e.slopes) e.size.count old new
    turns_done h = let q : u ≡ e.size.count = omega (arith, s.within) in rw q at s.moved

    module _ (h : u < e.size.count) where
      module _ (l : length old ≡ e.slopes + e.size.count) where
        pub turns_inside : e.slopes + u < length new
        turns_inside = omega (arith, turns_long)

        pub turns_more : {new' : List ℕ} → new' ≡ set new (e.slopes + u) (moved_price change (payers u) (get_or new (e.slopes + u) 0)) → TurnsMoved new' (u + 1)
        turns_more g = rw g (record { within = omega arith; moved = moved_more change payers (place_behind e.slopes) old u new (omega arith) (λ i m z. omega arith) s.moved })

-- by those that a table has
module _ (e : Extent) (payers : List ℕ) {u : ℕ} (h : u < e.size.count) where
  pub paid_few : FewPayers e.size.count payers → get_or payers u 0 ≤ most_turns
  unfolding FewPayers
  paid_few f = f u h

pub ruleset turns_moved_cases = (turns_long, turns_done, turns_inside, turns_more, paid_few)

-- where none has a payer, all of them fall
pub lowered_more : (change : ℕ) (e : Extent) (old new : List ℕ) {u : ℕ} → TurnsMoved change e nobody old new u → u < e.size.count → length old ≡ e.slopes + e.size.count → {new' : List ℕ} →
    new' ≡ set new (e.slopes + u) (get_or new (e.slopes + u) 0 - change) → TurnsMoved change e nobody old new' (u + 1)
unfolding moved_price
lowered_more change e old new s h l g = turns_more change e nobody old new s h l g

pub ruleset lowered_cases = (turns_long, turns_done, turns_inside, lowered_more)

module _ (e : Extent) (orders taken payers : List ℕ) (ps : Payers e.size.count taken orders payers) (o : EachOnce e.size.count orders) where
  pub turn_few : PaidRuns e.size.count orders → Taken e.size.count taken → FewPayers e.size.count payers
  unfolding FewPayers
  turn_few r w u h =
      let (j, l, q) = o.all u h in
      let p : get_or payers u 0 ≡ payers_before taken orders (j + 1) = ap (λ (x : ℕ). get_or payers x 0) (sym q) ∙ ps.values j l in
      omega (arith, p, payers_most taken orders (j + 1), w.few, r.few)

  -- turn by turn is place by place of the drivers' order
  pub turn_moved_lem : (change : ℕ) (old new : List ℕ) {c : ℕ} → c ≡ turn_change change → MovedBy c (payers_at payers) (place_behind e.slopes) e.size.count old new
      → MovedBy (turn_change change) (turn_payers_in orders taken) (turn_price_place e.slopes orders) e.size.count old new
  turn_moved_lem change old new q s =
      let m : MovedBy (turn_change change) (payers_at payers) (place_behind e.slopes) e.size.count old new = rw q at s in
      record {
        size = m.size;
        done = λ j l. m.done (drivers_turn orders j) (o.inside j l) ∙ ap (λ (k : ℕ). moved_price (turn_change change) k (get_or old (e.slopes + drivers_turn orders j) 0)) (ps.values j l);
        others = λ x h. m.others x (λ u k z. let (j, l, p) = o.all u k in h j l (ap (λ (y : ℕ). e.slopes + y) p ∙ z));
      }

pub ruleset turn_cases = (turn_few, turn_moved_lem)

-- ---- all prices

module _ (T : Turns) (slopes : ℕ) (S : List Bool) (change : ℕ) (prices : List ℕ) where
  abbrev slope_moved : ℕ → ℕ
  slope_moved k = moved_price change (slope_payers T S (k + 1)) (slope_price prices (k + 1))

  abbrev turn_moved : ℕ → ℕ
  turn_moved u = moved_price (turn_change change) (turn_payers T S u) (turn_price slopes prices u)

  moved_slope : (k : ℕ) → k < slopes → get_or (moved_prices T slopes S change prices) k 0 ≡ moved_price change (slope_payers T S (k + 1)) (get_or prices k 0)
  unfolding moved_prices slope_price
  moved_slope k h =
      let z : k + 1 - 1 ≡ k = omega arith in
      get_or-append (tab slopes slope_moved) (tab T.count turn_moved) 0 k (omega (arith, tab_length slopes slope_moved)) ∙ tab_at slopes slope_moved 0 k h ∙ rw z

  moved_turn : (u : ℕ) → u < T.count → get_or (moved_prices T slopes S change prices) (slopes + u) 0 ≡ moved_price (turn_change change) (turn_payers T S u) (get_or prices (slopes + u) 0)
  unfolding moved_prices turn_price
  moved_turn u h =
      ap (λ (k : ℕ). get_or (tab slopes slope_moved ++ tab T.count turn_moved) (k + u) 0) (sym (tab_length slopes slope_moved))
      ∙ get_or-append-add (tab slopes slope_moved) (tab T.count turn_moved) u 0
      ∙ tab_at T.count turn_moved 0 u h

  module _ (mid new : List ℕ) (l : length prices ≡ slopes + T.count) (a : MovedBy change (λ k. slope_payers T S (k + 1)) own_place slopes prices mid) where
    -- the slopes' prices first, then the turns'
    all_moved : length new ≡ length mid → ((k : ℕ) → k < slopes → get_or new k 0 ≡ get_or mid k 0) →
        ((u : ℕ) → u < T.count → get_or new (slopes + u) 0 ≡ moved_price (turn_change change) (turn_payers T S u) (get_or mid (slopes + u) 0)) → new ≡ moved_prices T slopes S change prices
    all_moved size front turns = ext_get_or 0 new (moved_prices T slopes S change prices) (size ∙ a.size ∙ l ∙ sym (moved_length T slopes S change prices)) (λ i m. at i m (dec_lt i slopes))
      where
        at : (i : ℕ) → i < length new → Dec (i < slopes) → get_or new i 0 ≡ get_or (moved_prices T slopes S change prices) i 0
        at i m (yes h) = front i h ∙ a.done i h ∙ sym (moved_slope i h)
        at i m (no h) =
            let u = i - slopes in
            let q : i ≡ slopes + u = omega arith in
            let k : u < T.count = omega (arith, size, a.size) in
            ap (λ (x : ℕ). get_or new x 0) q
            ∙ turns u k
            ∙ ap (moved_price (turn_change change) (turn_payers T S u)) (a.others (slopes + u) (λ i k e. omega arith))
            ∙ sym (moved_turn u k)
            ∙ ap (λ (x : ℕ). get_or (moved_prices T slopes S change prices) x 0) (sym q)

    all_driven : (orders taken : List ℕ) → Ordered T orders → TurnsOf T.count S taken → MovedBy (turn_change change) (turn_payers_in orders taken) (turn_price_place slopes orders) T.count mid new
        → new ≡ moved_prices T slopes S change prices
    all_driven orders taken o w b =
        all_moved b.size (λ k h. b.others k (λ j m e. omega arith)) (λ u h. let (j, m, q) = turn_place_lem T orders o u h in rw (payers_are T orders o S taken w j m, q) at (b.done j m))

    all_lowered : NoDrivers T → MovedBy (turn_change change) nobody (place_behind slopes) T.count mid new → new ≡ moved_prices T slopes S change prices
    all_lowered none b =
        all_moved b.size (λ k h. b.others k (λ j m e. omega arith))
        (λ u h. b.done u h ∙ ap (λ (k : ℕ). moved_price (turn_change change) k (get_or mid (slopes + u) 0)) (sym (no_payers T S u (none u h))))

module _ (e : Extent) (cols orders taken : List ℕ) (change : ℕ) (prices : List ℕ) (w : Priced e cols prices) (mid : List ℕ) where
  module _ (a : MovedBy change (slope_payers_in e cols taken) own_place e.slopes prices mid) where
    pub mid_list : length mid ≡ e.slopes + e.size.count
    mid_list = a.size ∙ w.list

    -- by the payers of a set
    of_set : (S : List Bool) → TurnsOf e.size.count S taken → MovedBy change (λ k. slope_payers (turns_in e cols) S (k + 1)) own_place e.slopes prices mid
    unfolding slope_payers times_taken TurnsOf turns_by
    of_set S t = moved_same change (slope_payers_in e cols taken) own_place prices (λ k. slope_payers (turns_in e cols) S (k + 1)) e.slopes mid (λ k h. t (λ u. cond (eqb ((turns_in e cols).slope u) (k + 1)) 1 0)) a

    pub prices_moved : (new : List ℕ) → Ordered (turns_in e cols) orders → MovedBy (turn_change change) (turn_payers_in orders taken) (turn_price_place e.slopes orders) e.size.count mid new
        → MovedFor e cols taken change prices new
    unfolding turns_by
    prices_moved new o b = record { is = λ S t. all_driven (turns_by e.size cols) e.slopes S change prices mid new w.list (of_set S t) orders taken o t b }

    pub prices_lowered : (new : List ℕ) {r : Bool} {c d : ℕ} → r ≡ false → r ≡ ltb 0 (greatest_driver (turns_by e.size cols) e.size.count) → c ≡ turn_change change → d ≡ c → MovedBy d nobody (place_behind e.slopes) e.size.count mid new
        → MovedFor e cols taken change prices new
    unfolding turns_by
    prices_lowered new z u q p b =
        record { is = λ S t. all_lowered (turns_by e.size cols) e.slopes S change prices mid new w.list (of_set S t) (none_named e cols z u) (rw (p ∙ q) at b) }

pub ruleset prices_cases = (priced_slopes, mid_list, prices_moved, prices_lowered)
