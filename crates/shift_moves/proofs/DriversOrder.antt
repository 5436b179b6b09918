-- The drivers' order has each turn at just one place, and what a turn pays for stands there side by side. Assumes nothing.
use Prim.Native.Nat.{ℕ, ◌+◌, ◌≤◌, ◌<◌}
use mathlib.Core.Path.{◌≡◌, refl, sym, ap, ◌∙◌}
use mathlib.Core.Bool.{Bool, true, false, cond, ◌&&◌}
use mathlib.Core.List.{List}
use native.Mathlib.Omega.{arith}
use lib.Dec.{ltb, leb}
use lib.ListN.{get_or}
use borrow.Author.Tests.{ltb-true, lt-ltb, leb-true, le-leb}
use Rattle.lists.specs.Lists.{below}
use Rattle.lists.proofs.Bools.{and_1, and_2, fails, not_both}
use Rattle.lists.proofs.Sums.{sum_zero, sum_same, all_of}
use Rattle.sheet.specs.Kind.{most_turns}
use Rattle.model.specs.Turns.{Turns, one_driver, by_driver}
use Rattle.model.specs.Choice.{has, chosen}
use Rattle.instance.specs.Columns.{turns_by}
use Rattle.best_spec.specs.Table.{turn_order}
use Rattle.best_table.proofs.OrderCases.{order_within}
use Rattle.limit_spec.specs.Prices.{pays_turn}
use Rattle.shift_look.specs.declared.Extent.{Extent}
use Rattle.shift_look.specs.OrdersAndCounts.{by_drivers, turns_in, drivers_turn, paid_from, paid_to, Ordered, Priced}
use Rattle.refine_spec.specs.Shift.{turn_payers}
use Rattle.shift_look.proofs.PaidRuns.{order_place, order_apart}
use Rattle.shift_moves.specs.Moves.{payers_before, TurnsOf, PaidRuns, EachOnce}

-- ---- the drivers' order

module _ (T : Turns) (orders : List ℕ) (o : Ordered T orders) where
  drivers_count : (by_drivers T).count ≡ T.count
  unfolding by_drivers
  drivers_count = refl

  pub turn_place_lem : (u : ℕ) → u < T.count → (j : ℕ) × (j < T.count) × (drivers_turn orders j ≡ u)
  turn_place_lem u h = let (j, l, q) = order_place (by_drivers T) u (omega (arith, drivers_count)) in let k : j < T.count = omega (arith, drivers_count) in (j, k, o.drivers j k ∙ q)

  each_once : EachOnce T.count orders
  each_once =
      record {
        inside = λ j h. omega (arith, o.drivers j h, order_within (by_drivers T) j (omega (arith, drivers_count)), drivers_count);
        apart = λ i j l h e. order_apart (by_drivers T) i j l (omega (arith, drivers_count)) (sym (o.drivers i (omega arith)) ∙ e ∙ o.drivers j h);
        all = turn_place_lem;
      }

  runs_of : T.count ≤ most_turns → PaidRuns T.count orders
  runs_of l = record { places = o.places; few = l; rising = λ t h. (o.runs t h).rising; within = λ t h. (o.runs t h).within }

  -- a place is in the run of just those turns that pay for the turn there
  in_run : (j t : ℕ) → j < T.count → t < T.count → (ltb (paid_from orders t) (j + 1) && leb (j + 1) (paid_to orders t)) ≡ pays_turn T (drivers_turn orders j) t
  in_run j t h l = rw (o.drivers j h) (go (pays_turn T (get_or (turn_order (by_drivers T)) j 0) t) refl)
    where
      go : (b : Bool) → pays_turn T (get_or (turn_order (by_drivers T)) j 0) t ≡ b → (ltb (paid_from orders t) (j + 1) && leb (j + 1) (paid_to orders t)) ≡ b
      go true e = let (a, b) = ((o.runs t l).pays j h).0 e in rw (lt-ltb (paid_from orders t) (j + 1) (omega arith), le-leb (j + 1) (paid_to orders t) (omega arith))
      go false e = fails (ltb (paid_from orders t) (j + 1) && leb (j + 1) (paid_to orders t)) (λ q. not_both (((o.runs t l).pays j h).1 (
        omega (arith, ltb-true (paid_from orders t) (j + 1) (and_1 (ltb (paid_from orders t) (j + 1)) (leb (j + 1) (paid_to orders t)) q)),
        omega (arith, leb-true (j + 1) (paid_to orders t) (and_2 (ltb (paid_from orders t) (j + 1)) (leb (j + 1) (paid_to orders t)) q)),
      )) e)

  pub payers_are : (S : List Bool) (taken : List ℕ) → TurnsOf T.count S taken → (j : ℕ) → j < T.count → payers_before taken orders (j + 1) ≡ turn_payers T S (drivers_turn orders j)
  unfolding payers_before turn_payers chosen TurnsOf
  payers_are S taken w j h = w (λ t. cond (ltb (paid_from orders t) (j + 1) && leb (j + 1) (paid_to orders t)) 1 0)
      ∙ sum_same (λ t. cond (has S t) (cond (ltb (paid_from orders t) (j + 1) && leb (j + 1) (paid_to orders t)) 1 0) 0) (λ t. cond (has S t) (cond (pays_turn T (drivers_turn orders j) t) 1 0) 0) T.count
      (λ t l. ap (λ (b : Bool). cond (has S t) (cond b 1 0) 0) (in_run j t h l))

-- ---- without drivers

no_zero : (s : Bool) → ◌≡◌ {A = ℕ} (cond s 0 0) 0
no_zero true = refl
no_zero false = refl

-- no turn pays the price of one that names no driver
pub no_payers : (T : Turns) (S : List Bool) (u : ℕ) → T.driver u ≡ 0 → turn_payers T S u ≡ 0
unfolding turn_payers chosen pays_turn by_driver one_driver
no_payers T S u e = sum_zero (λ t. cond (has S t) (cond (pays_turn T u t) 1 0) 0) (all_of (λ t. rw (pays_not t) (no_zero (has S t))) (below T.count))
  where
    pays_not : (t : ℕ) → pays_turn T u t ≡ false
    pays_not t = rw e

-- ---- as the code leaves it

module _ (e : Extent) (cols orders : List ℕ) (o : Ordered (turns_in e cols) orders) where
  pub order_once : EachOnce e.size.count orders
  unfolding turns_by
  order_once = each_once (turns_by e.size cols) orders o

  pub order_runs : (prices : List ℕ) → Priced e cols prices → PaidRuns e.size.count orders
  unfolding turns_by
  order_runs prices w = runs_of (turns_by e.size cols) orders o w.few
