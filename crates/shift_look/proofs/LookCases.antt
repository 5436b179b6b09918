-- A look at prices by cases: the table over the counts, and the set read back from it. Assumes nothing.
use Prim.Native.Nat.{ℕ, ◌+◌, ◌≤◌}
use mathlib.Core.Path.{◌≡◌, refl, sym, ap, ◌∙◌}
use mathlib.Core.Bool.{Bool, false}
use mathlib.Core.List.{List, [], ◌∷◌}
use native.Mathlib.Omega.{arith}
use lib.ListN.{drop, get_or, replicate}
use Rattle.sheet.specs.Kind.{most_turns}
use Rattle.model.specs.Turns.{Turns, one_groomer}
use Rattle.instance.specs.Columns.{turns_by}
use Rattle.best_spec.specs.Table.{later_first, turn_order, in_the_way, blocked, best_worth, marked, best_choice}
use Rattle.best_table.specs.OrderAndTable.{place_before, whole_way, InTurnOrder, Befores, Counts, Chained, Filled, Readable, Firsts}
use Rattle.best_table.proofs.BestCases.{turns_chained, filled_entries, filled_firsts, turns_readable, way_best, first_entry}
use Rattle.limit_spec.specs.Prices.{price_sum}
use Rattle.shift_look.specs.declared.Extent.{Extent}
use Rattle.shift_look.specs.OrdersAndCounts.{counted_turns, turns_in, CountsTo, Ordered, Priced}

-- ---- counts change no order

module _ (T : Turns) (slopes : ℕ) (prices : List ℕ) where
  counted_order : turn_order (counted_turns T slopes prices) ≡ turn_order T
  unfolding turn_order later_first one_groomer counted_turns
  counted_order = refl

  counted_blocked : (t : ℕ) (us : List ℕ) → blocked (counted_turns T slopes prices) t us ≡ blocked T t us
  unfolding blocked in_the_way one_groomer counted_turns
  counted_blocked t [] = refl
  counted_blocked t (u ∷ us) = rw (counted_blocked t us)

  counted_before : (i : ℕ) → place_before (counted_turns T slopes prices) i ≡ place_before T i
  counted_before i = rw counted_order (ap (λ (k : ℕ). i + 1 + k) (counted_blocked (get_or (turn_order T) i 0) (drop (i + 1) (turn_order T))))

  counted_count : (counted_turns T slopes prices).count ≡ T.count
  unfolding counted_turns
  counted_count = refl

  module _ (orders : List ℕ) where
    places_counted : InTurnOrder T orders → InTurnOrder (counted_turns T slopes prices) orders
    places_counted o =
        record {
          places = omega (arith, o.places, counted_count);
          turns = λ i h. o.turns i (omega (arith, counted_count)) ∙ ap (λ (ts : List ℕ). get_or ts i 0) (sym counted_order);
        }

    befores_counted : Befores T orders T.count → Befores (counted_turns T slopes prices) orders (counted_turns T slopes prices).count
    befores_counted b = record { places = b.places; values = λ k h. b.values k (omega (arith, counted_count)) ∙ sym (counted_before k) }

  counts_are : (counts : List ℕ) → T.count ≤ most_turns → CountsTo T slopes prices counts T.count → Counts (counted_turns T slopes prices) counts
  unfolding counted_turns
  counts_are counts few c = record { places = omega (arith, c.places); values = c.values }

-- ---- the table over counts

module _ (e : Extent) (cols prices : List ℕ) (few : e.size.count ≤ most_turns) (orders : List ℕ) (o : InTurnOrder (turns_in e cols) orders) where
  abbrev C : Turns
  C = counted_turns (turns_in e cols) e.slopes prices

  abbrev o' : InTurnOrder C orders
  o' = places_counted (turns_in e cols) e.slopes prices orders o

  module _ (b : Befores (turns_in e cols) orders e.size.count) (counts : List ℕ) (c : CountsTo (turns_in e cols) e.slopes prices counts e.size.count) where
    pub table_chained : Chained e.size.count orders counts
    unfolding turns_by counted_turns
    table_chained = turns_chained C orders o' counts few (befores_counted (turns_in e cols) e.slopes prices orders b) (counts_are (turns_in e cols) e.slopes prices counts few c)

    module _ (worths firsts : List ℕ) (f : Filled e.size.count orders counts 0 worths firsts) where
      pub table_firsts : Firsts C firsts
      unfolding turns_by counted_turns
      table_firsts = filled_firsts C orders o' counts few (befores_counted (turns_in e cols) e.slopes prices orders b) (counts_are (turns_in e cols) e.slopes prices counts few c) worths firsts f

      pub table_first : get_or worths 0 0 ≡ best_worth C
      unfolding turns_by counted_turns
      table_first =
          first_entry C worths (filled_entries C orders o' counts few (befores_counted (turns_in e cols) e.slopes prices orders b) (counts_are (turns_in e cols) e.slopes prices counts few c) worths firsts f)

  module _ (b : Befores (turns_in e cols) orders e.size.count) (firsts : List ℕ) (s : Firsts C firsts) where
    pub table_readable : Readable e.size.count orders firsts
    unfolding turns_by counted_turns
    table_readable = turns_readable C orders o' firsts few (befores_counted (turns_in e cols) e.slopes prices orders b) s

    pub table_best : {S S' : List Bool} → S ≡ replicate e.size.count false → S' ≡ marked S (whole_way orders firsts e.size.count) → S' ≡ best_choice C
    unfolding turns_by counted_turns
    table_best q r = way_best C orders o' firsts few (befores_counted (turns_in e cols) e.slopes prices orders b) s q r

-- ---- as the code leaves it

module _ (T : Turns) (orders : List ℕ) (few : T.count ≤ most_turns) (o : Ordered T orders) where
  ordered_turns : InTurnOrder T orders
  ordered_turns = record { places = omega (arith, o.places); turns = o.groomers }

  ordered_befores : Befores T orders T.count
  ordered_befores = record { places = omega (arith, o.places); values = o.before }

module _ (e : Extent) (cols orders prices : List ℕ) (w : Priced e cols prices) (o : Ordered (turns_in e cols) orders) where
  in_order : InTurnOrder (turns_in e cols) orders
  unfolding turns_by
  in_order = ordered_turns (turns_by e.size cols) orders w.few o

  in_befores : Befores (turns_in e cols) orders e.size.count
  unfolding turns_by
  in_befores = ordered_befores (turns_by e.size cols) orders w.few o

  module _ (counts : List ℕ) (c : CountsTo (turns_in e cols) e.slopes prices counts e.size.count) where
    pub look_chained : Chained e.size.count orders counts
    look_chained = table_chained e cols prices w.few orders in_order in_befores counts c

    module _ (worths firsts : List ℕ) (f : Filled e.size.count orders counts 0 worths firsts) where
      pub look_firsts : Firsts (counted_turns (turns_in e cols) e.slopes prices) firsts
      look_firsts = table_firsts e cols prices w.few orders in_order in_befores counts c worths firsts f

      pub look_sum : {a : ℕ} → a ≡ price_sum (turns_in e cols) e.slopes prices → a + get_or worths 0 0 ≡ price_sum (turns_in e cols) e.slopes prices + best_worth (counted_turns (turns_in e cols) e.slopes prices)
      look_sum q = rw (q, table_first e cols prices w.few orders in_order in_befores counts c worths firsts f)

  module _ (firsts : List ℕ) (s : Firsts (counted_turns (turns_in e cols) e.slopes prices) firsts) where
    pub look_readable : Readable e.size.count orders firsts
    look_readable = table_readable e cols prices w.few orders in_order in_befores firsts s

    pub look_best : {S S' : List Bool} → S ≡ replicate e.size.count false → S' ≡ marked S (whole_way orders firsts e.size.count) → S' ≡ best_choice (counted_turns (turns_in e cols) e.slopes prices)
    look_best q r = table_best e cols prices w.few orders in_order in_befores firsts s q r

pub ruleset look_cases = (look_chained, look_firsts, look_sum, look_readable, look_best)
