-- The rule by its cases, each premise in the form in which the code's match and calls leave it. Assumes nothing.
use Prim.Native.Nat.{ℕ, ◌+◌, ◌-◌, ◌*◌, ◌/◌, ◌≤◌}
use mathlib.Core.Path.{◌≡◌, sym, ap, ◌∙◌}
use mathlib.Core.Bool.{Bool, false}
use mathlib.Core.List.{List, ◌++◌}
use native.Mathlib.Omega.{arith}
use mir.Syntax.{w64}
use mir.Val.{Fits}
use lib.ListN.{length, take, drop, replicate, length-append}
use lib.Seq.{take-length, drop_at}
use Rattle.turn.specs.Turn.{shift_minutes, most_worth}
use Rattle.model.specs.Choice.{has, chosen, fits, choose_each}
use Rattle.choice_map.specs.Choice.{choice_in, Clean}
use Rattle.best_spec.specs.Table.{best_worth, best_choice}
use Rattle.instance.specs.declared.columns.Size.{Size}
use Rattle.instance.specs.Columns.{turns_by, Held}
use Rattle.instance.proofs.Rows.{count_is}
use Rattle.selection.specs.Asked.{NumbersOf}
use Rattle.best_table.specs.OrderAndTable.{Ranged}
use Rattle.limit_spec.specs.Prices.{price_sum}
use Rattle.shift_look.specs.declared.Extent.{Extent}
use Rattle.shift_look.specs.OrdersAndCounts.{counted_turns, turns_in, order_places, Driven, Ordered, Priced}
use Rattle.conflict_sets.specs.Sets.{row_words}
use Rattle.conflict_sets.specs.Rows.{RowsOf, Sloped}
use Rattle.refine_spec.specs.Rounds.{first_change}
use Rattle.refine_spec.specs.Selection.{by_worth}
use Rattle.refine_spec.specs.Shift.{greatest_worth}
use Rattle.refine_spec.proofs.Selection.{worth_length}
use Rattle.shift_moves.specs.Moves.{Taken, TurnsOf, MovedFor}
use Rattle.shift_moves.proofs.TakenTurns.{worth_taken_lem, worth_turns}
use Rattle.round_parts.specs.Ranks.{with_chosen}
use Rattle.round_parts.proofs.RankCases.{ranks_length, list_made}
use Rattle.charge_spec.specs.Hall.{stays_allowed}
use Rattle.hall_by_prices_spec.specs.Prices.{hall_limit, hall_relaxed}
use Rattle.hall_by_prices_spec.specs.Hall.{moved_minutes}
use Rattle.hall_look.specs.declared.HallSize.{HallSize}
use Rattle.hall_look.specs.Look.{hall_for, HallPosed}
use Rattle.lists.specs.Lists.{keep}
use Rattle.price_rule.specs.Rules.{RuleFor, Shift, Hall, size_of, prices_of, change_of, rule_limit, relaxed_of, fits_of, moved_of, choice_of, choosing_list, rule_worth, ShiftPosed, RulePosed, OrderedFor, RowsFor}

-- ---- for a shift

module _ (r : RuleFor) (e : Extent) (g : r ≡ Shift e) where
  pub shift_size_lem : e.size ≡ size_of r
  unfolding size_of
  shift_size_lem = rw g

  shift_count : (size_of r).count ≡ e.size.count
  shift_count = ap (λ (p : Size). p.count) (sym shift_size_lem)

  module _ (cols : List ℕ) where
    module _ (w : RulePosed r cols) where
      shift_posed : ShiftPosed e cols
      unfolding RulePosed
      shift_posed = rw g at w

      pub shift_held : Held e.size cols
      shift_held = shift_posed.held

      pub shift_scaled : Fits w64 (e.size.count * 2)
      shift_scaled = omega (arith, shift_posed.held.few)

      pub shift_ranged : Ranged e.size cols
      shift_ranged = shift_posed.ranged

      pub shift_sloped : Sloped e.size cols
      shift_sloped = record { few = λ t h. omega (arith, (shift_posed.numbers t h).1, shift_posed.few_slopes) }

      pub shift_driven : Driven e.size cols
      shift_driven = record { drivers = shift_posed.drivers }

      pub shift_priced : (prices : List ℕ) → length prices ≡ prices_of r → Priced e cols prices
      unfolding prices_of
      shift_priced prices l =
          let h = shift_posed in
          record {
            places = h.held.places;
            few = h.held.few;
            few_slopes = h.few_slopes;
            numbers = h.numbers;
            drivers = h.drivers;
            list = rw g at l;
          }

    pub shift_ordered_for : (orders : List ℕ) → Ordered (turns_in e cols) orders → OrderedFor r cols orders
    unfolding OrderedFor
    shift_ordered_for orders h = rw g h

    pub shift_rows_for : (rows : List ℕ) → RowsOf (turns_in e cols) rows → RowsFor r cols rows
    unfolding RowsFor
    shift_rows_for rows h = rw g h

    pub shift_rows : (rows : List ℕ) → RowsFor r cols rows → RowsOf (turns_in e cols) rows
    unfolding RowsFor
    shift_rows rows h = rw g at h

    pub shift_worth : (map : List ℕ) {x : ℕ} → x ≡ chosen e.size.count (choice_in e.size.count map) (turns_by e.size cols).worth → x ≡ chosen (size_of r).count (choice_in (size_of r).count map) (turns_by (size_of r) cols).worth
    unfolding size_of
    shift_worth map q = rw g q

    pub shift_ordered : (orders : List ℕ) → OrderedFor r cols orders → Ordered (turns_in e cols) orders
    unfolding OrderedFor
    shift_ordered orders h = rw g at h

    pub shift_change : {x : ℕ} → x ≡ greatest_worth (turns_by e.size cols) → (x + 3) / 4 ≡ change_of r cols
    unfolding change_of first_change
    shift_change q = rw (g, q)

    pub shift_limit : {x : ℕ} (prices : List ℕ) → x ≡ price_sum (turns_in e cols) e.slopes prices + best_worth (counted_turns (turns_in e cols) e.slopes prices) → x ≡ rule_limit r cols prices
    unfolding rule_limit
    shift_limit prices q = rw g q

    pub shift_relaxed : (prices map : List ℕ) → choice_in e.size.count map ≡ best_choice (counted_turns (turns_in e cols) e.slopes prices) → choice_in (size_of r).count map ≡ relaxed_of r cols prices
    unfolding relaxed_of size_of
    shift_relaxed prices map q = rw g q

    pub shift_chosen : (list map : List ℕ) → choice_in e.size.count map ≡ choose_each (fits (turns_by e.size cols)) list (replicate e.size.count false)
        → choice_in (size_of r).count map ≡ choose_each (fits_of r cols) list (replicate (size_of r).count false)
    unfolding fits_of size_of
    shift_chosen list map q = rw g q

    module _ (map list : List ℕ) (q : list ≡ choosing_list r cols map) where
      abbrev S : List Bool
      S = choice_in e.size.count map

      list_is : list ≡ by_worth (turns_in e cols) ++ keep (has S) (by_worth (turns_in e cols))
      unfolding choosing_list with_chosen size_of
      list_is = rw g at q

      all_long : length (by_worth (turns_in e cols)) ≡ e.size.count
      all_long = worth_length (turns_in e cols) ∙ count_is e.size cols

      abbrev kept : List ℕ
      kept = keep (has S) (by_worth (turns_in e cols))

      long : length list ≡ e.size.count + length kept
      long = ap (λ (l : List ℕ). length l) list_is ∙ length-append (by_worth (turns_in e cols)) kept ∙ ap (λ (k : ℕ). k + length kept) all_long

      behind : take (length list - e.size.count) (drop e.size.count list) ≡ kept
      behind =
          let d : drop e.size.count list ≡ kept = rw list_is (drop_at (by_worth (turns_in e cols)) kept e.size.count all_long) in
          let k : length list - e.size.count ≡ length kept = omega (arith, long) in
          rw (d, k) (take-length kept)

      pub shift_behind : e.size.count ≤ length list
      shift_behind = omega (arith, long)

      pub shift_taken : Taken e.size.count (take (length list - e.size.count) (drop e.size.count list))
      unfolding turns_by
      shift_taken = let t : Taken e.size.count kept = rw (count_is e.size cols) at (worth_taken_lem (turns_in e cols) S) in rw behind t

      pub shift_moved : (prices : List ℕ) (change : ℕ) {prices' : List ℕ} → MovedFor e cols (take (length list - e.size.count) (drop e.size.count list)) change prices prices' → prices' ≡ moved_of r cols (choice_in (size_of r).count map) change prices
      unfolding moved_of size_of turns_by
      shift_moved prices change m =
          let t : TurnsOf e.size.count S kept = rw (count_is e.size cols) at (worth_turns (turns_in e cols) S) in
          rw g (m.is S (rw behind t))

  pub shift_clean : (map : List ℕ) → Clean (size_of r).count map → Clean e.size.count map
  shift_clean map c = rw shift_count at c

  pub shift_clean_too : (map : List ℕ) → Clean e.size.count map → Clean (size_of r).count map
  shift_clean_too map c = rw shift_count c

  pub shift_none : (map : List ℕ) → choice_in (size_of r).count map ≡ replicate (size_of r).count false → choice_in e.size.count map ≡ replicate e.size.count false
  shift_none map q = rw shift_count at q

  pub shift_numbers : (list : List ℕ) → NumbersOf (size_of r).count list → NumbersOf e.size.count list
  shift_numbers list q = rw shift_count at q

-- ---- for a hall

module _ (r : RuleFor) (h : HallSize) (g : r ≡ Hall h) where
  pub hall_size : h.size ≡ size_of r
  unfolding size_of
  hall_size = rw g

  hall_count : (size_of r).count ≡ h.size.count
  hall_count = ap (λ (p : Size). p.count) (sym hall_size)

  module _ (cols : List ℕ) where
    module _ (w : RulePosed r cols) where
      pub hall_posed : HallPosed h cols
      unfolding RulePosed
      hall_posed = rw g at w

      pub hall_held : Held h.size cols
      hall_held = hall_posed.held.held

    pub hall_ordered_for : (orders : List ℕ) → length orders ≡ order_places → OrderedFor r cols orders
    unfolding OrderedFor
    hall_ordered_for orders q = rw g q

    pub hall_rows_for : (rows : List ℕ) → length rows ≡ row_words → RowsFor r cols rows
    unfolding RowsFor
    hall_rows_for rows q = rw g q

    pub hall_worth_lem : (map : List ℕ) {x : ℕ} → x ≡ chosen h.size.count (choice_in h.size.count map) (turns_by h.size cols).worth → x ≡ chosen (size_of r).count (choice_in (size_of r).count map) (turns_by (size_of r) cols).worth
    unfolding size_of
    hall_worth_lem map q = rw g q

    pub hall_change : {x : ℕ} → x ≡ greatest_worth (turns_by h.size cols) → (x + 7) / 8 ≡ change_of r cols
    unfolding change_of first_change
    hall_change q = rw (g, q)

    pub hall_limit_lem : {x : ℕ} (prices : List ℕ) → x ≡ hall_limit (hall_for h cols) h.vehicles prices → x ≡ rule_limit r cols prices
    unfolding rule_limit
    hall_limit_lem prices q = rw g q

    pub hall_relaxed_lem : (prices map : List ℕ) → choice_in h.size.count map ≡ hall_relaxed (hall_for h cols) prices → choice_in (size_of r).count map ≡ relaxed_of r cols prices
    unfolding relaxed_of size_of
    hall_relaxed_lem prices map q = rw g q

    pub hall_chosen : (list map : List ℕ) → choice_in h.size.count map ≡ choose_each (stays_allowed (hall_for h cols)) list (replicate h.size.count false)
        → choice_in (size_of r).count map ≡ choose_each (fits_of r cols) list (replicate (size_of r).count false)
    unfolding fits_of size_of
    hall_chosen list map q = rw g q

    pub hall_moved : (prices map : List ℕ) (change : ℕ) {prices' : List ℕ} → prices' ≡ moved_minutes (hall_for h cols) (choice_in h.size.count map) change prices
        → prices' ≡ moved_of r cols (choice_in (size_of r).count map) change prices
    unfolding moved_of size_of
    hall_moved prices map change q = rw g q

  pub hall_prices : (prices : List ℕ) → length prices ≡ prices_of r → length prices ≡ shift_minutes
  unfolding prices_of
  hall_prices prices l = rw g at l

  pub hall_clean : (map : List ℕ) → Clean (size_of r).count map → Clean h.size.count map
  hall_clean map c = rw hall_count at c

  pub hall_clean_too : (map : List ℕ) → Clean h.size.count map → Clean (size_of r).count map
  hall_clean_too map c = rw hall_count c

  pub hall_none : (map : List ℕ) → choice_in (size_of r).count map ≡ replicate (size_of r).count false → choice_in h.size.count map ≡ replicate h.size.count false
  hall_none map q = rw hall_count at q

  pub hall_numbers : (list : List ℕ) → NumbersOf (size_of r).count list → NumbersOf h.size.count list
  hall_numbers list q = rw hall_count at q

pub change_most_4 : {x : ℕ} → x ≤ most_worth → (x + 3) / 4 ≤ most_worth
change_most_4 l = omega arith

pub change_most_8 : {x : ℕ} → x ≤ most_worth → (x + 7) / 8 ≤ most_worth
change_most_8 l = omega arith

pub ruleset size_cases = (shift_size_lem, hall_size)

pub ruleset table_cases = (shift_held, shift_ranged, shift_sloped, shift_driven, shift_ordered_for, shift_rows_for, hall_ordered_for, hall_rows_for)

pub ruleset change_cases = (shift_held, shift_change, change_most_4, hall_held, hall_change, change_most_8)

pub ruleset look_cases = (shift_priced, shift_ordered, shift_clean, shift_none, shift_clean_too, shift_limit, shift_relaxed, hall_posed, hall_prices, hall_clean, hall_none, hall_clean_too, hall_limit_lem, hall_relaxed_lem)

pub ruleset chosen_cases = (shift_held, shift_rows, shift_numbers, shift_clean, shift_none, shift_clean_too, shift_chosen, shift_worth, hall_posed, hall_numbers, hall_clean, hall_none, hall_clean_too, hall_chosen, hall_worth_lem)

pub ruleset move_cases = (shift_priced, shift_ordered, shift_scaled, shift_behind, shift_taken, shift_moved, hall_posed, hall_prices, hall_clean, hall_moved)

-- ---- the choice made from a relaxed set, whatever the rule

module _ (r : RuleFor) (cols : List ℕ) where
  -- the turns or windows are held
  pub rule_held : RulePosed r cols → Held (size_of r) cols
  unfolding RulePosed size_of
  rule_held = go r
    where
      go : (x : RuleFor) → RulePosed x cols → Held (size_of x) cols
      go (Shift e) w = w.held
      go (Hall h) w = w.held.held

  module _ (ranks relaxed list : List ℕ) (e : ranks ≡ by_worth (turns_by (size_of r) cols)) (q : list ≡ with_chosen (choice_in (length ranks) relaxed) ranks) where
    pub choice_made : {S : List Bool} → S ≡ choose_each (fits_of r cols) list (replicate (size_of r).count false) → S ≡ choice_of r cols (choice_in (size_of r).count relaxed)
    unfolding choice_of
    choice_made f = list_made (size_of r) cols ranks e relaxed list q (fits_of r cols) f

    pub list_made_of : list ≡ choosing_list r cols relaxed
    unfolding choosing_list
    list_made_of = let n : length ranks ≡ (size_of r).count = ranks_length (size_of r) cols ranks e in q ∙ rw (n, e)

  -- what a choice in a map is worth
  pub choice_worth : (map : List ℕ) {x : ℕ} {S : List Bool} → choice_in (size_of r).count map ≡ S → x ≡ chosen (size_of r).count (choice_in (size_of r).count map) (turns_by (size_of r) cols).worth → x ≡ rule_worth r cols S
  unfolding chosen rule_worth
  choice_worth map f h = h ∙ rw (f, count_is (size_of r) cols)
