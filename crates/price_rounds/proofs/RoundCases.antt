-- The rounds by their cases, each premise in the form in which the code's calls and tests leave it. Assumes nothing.
use Prim.Native.Nat.{ℕ, ◌+◌, ◌-◌, ◌<◌, ◌≤◌}
use mathlib.Core.Path.{◌≡◌, refl, sym, ap, ◌∙◌}
use mathlib.Core.List.{List}
use mathlib.Core.Bool.{Bool, true, false, cond, ◌||◌}
use native.Mathlib.Omega.{arith}
use lib.Dec.{ltb, eqb}
use lib.ListN.{length, take, replicate, length-replicate}
use borrow.Author.Tests.{lt-ltb, le-ltb}
use Rattle.lists.proofs.Sums.{tab_length}
use Rattle.turn.specs.Turn.{shift_minutes, most_worth}
use Rattle.sheet.specs.Kind.{most_turns}
use Rattle.model.specs.Choice.{chosen, choose_each}
use Rattle.choice_map.specs.Choice.{map_bytes, choice_in, Clean}
use Rattle.selection.specs.Asked.{NumbersOf}
use Rattle.instance.specs.declared.columns.Size.{Size}
use Rattle.instance.specs.Columns.{turns_by, Held}
use Rattle.instance.proofs.Rows.{count_is}
use Rattle.shift_look.specs.OrdersAndCounts.{turns_in}
use Rattle.refine_spec.specs.Rounds.{RoundRule, Stage, lower_limit, better_choice, looked, next_change, moving, refined}
use Rattle.refine_spec.specs.Selection.{by_worth}
use Rattle.refine_spec.proofs.Loop.{loop_stops, loop_left, loop_goes, first_same}
use Rattle.refine_spec.proofs.Shift.{moved_length}
use Rattle.round_parts.specs.Ranks.{with_chosen}
use Rattle.round_parts.proofs.RankCases.{keys_room, keys_given, list_numbers}
use Rattle.hall_by_prices_spec.specs.Hall.{moved_minutes}
use Rattle.price_rule.specs.Rules.{RuleFor, Shift, Hall, size_of, prices_of, change_of, rule_limit, relaxed_of, fits_of, moved_of, choice_of, rule_worth, round_rule, RulePosed}
use Rattle.price_rule.proofs.RuleCases.{rule_held, choice_made, choice_worth}
use Rattle.lists.proofs.Places.{take_zeros}
use Rattle.price_rounds.specs.declared.Reached.{Reached}
use Rattle.price_rounds.specs.Rounds.{Task, rounds_from, chosen_from, stage_of, BetterKept, Reaches, RoundsStart, BetweenLooks}
use Rattle.price_rounds.proofs.FirstLook.{first_limit}

-- ---- the better of two choices

module _ (r : RuleFor) (cols list best map : List ℕ) (worth : ℕ) {found : ℕ} (m : choice_in (size_of r).count map ≡ choose_each (fits_of r cols) list (replicate (size_of r).count false))
    (f : found ≡ chosen (size_of r).count (choice_in (size_of r).count map) (turns_by (size_of r) cols).worth) where
  abbrev made : List Bool
  made = chosen_from r cols list

  made_is : choice_in (size_of r).count map ≡ made
  unfolding chosen_from
  made_is = m

  found_is : found ≡ rule_worth r cols made
  found_is = choice_worth r cols map made_is f

  pub better_none : found ≤ worth → BetterKept r cols (chosen_from r cols list) (choice_in (size_of r).count best) worth (choice_in (size_of r).count best) worth
  better_none h = let n : ltb worth (rule_worth r cols made) ≡ false = le-ltb worth (rule_worth r cols made) (omega (arith, found_is)) in record { choice_is = rw n; worth_is = rw n }

  pub better_put : {best' : List ℕ} → best' ≡ map → worth < found
      → BetterKept r cols (chosen_from r cols list) (choice_in (size_of r).count best) worth (choice_in (size_of r).count best') found
  better_put e h =
      let n : ltb worth (rule_worth r cols made) ≡ true = lt-ltb worth (rule_worth r cols made) (omega (arith, found_is)) in
      record { choice_is = rw n (ap (choice_in (size_of r).count) e ∙ made_is); worth_is = rw n found_is }

pub better_clean : {n : ℕ} {map best' : List ℕ} → Clean n map → best' ≡ map → Clean n best'
better_clean d e = rw e d

-- a map beside the best so far
pub rule_few : (r : RuleFor) (cols : List ℕ) → RulePosed r cols → (size_of r).count ≤ most_turns
rule_few r cols w = (rule_held r cols w).few

pub map_fits : {n : ℕ} {map : List ℕ} → n ≤ most_turns → Clean n map → length map ≤ map_bytes most_turns
map_fits h c = omega (arith, c.size)

pub map_size : {n : ℕ} {map : List ℕ} → Clean n map → length map ≡ map_bytes n
map_size c = c.size

pub ruleset better_cases = (better_none, better_put, better_clean, rule_few, map_fits, map_size)

-- ---- at the start

abbrev most_prices : ℕ
most_prices = shift_minutes

prices_most : (r : RuleFor) (cols : List ℕ) → RulePosed r cols → prices_of r ≤ most_prices
unfolding prices_of RulePosed
prices_most (Shift e) cols w = omega (arith, w.few_slopes, w.held.few)
prices_most (Hall h) cols w = omega arith

module _ (r : RuleFor) (cols list : List ℕ) (w : RulePosed r cols) (l : length list ≡ prices_of r) where
  prices_fit : length list ≤ most_prices
  prices_fit = omega (arith, prices_most r cols w)

  zeros : take (length list) (replicate {A = ℕ} most_prices 0) ≡ replicate {A = ℕ} (prices_of r) 0
  zeros = take_zeros (length list) most_prices prices_fit ∙ ap (λ (n : ℕ). replicate n 0) l

  zeros_size : length (take (length list) (replicate {A = ℕ} most_prices 0)) ≡ prices_of r
  zeros_size = rw zeros (length-replicate {A = ℕ} (prices_of r) 0)

module _ (t : Task) (cols list map room : List ℕ) (h : RoundsStart t cols list map room) where
  pub start_held : {p : Size} → p ≡ size_of t.rule → Held p cols
  start_held e = rw e (rule_held t.rule cols h.posed)

  pub start_few : {p : Size} → p ≡ size_of t.rule → p.count ≤ most_turns
  start_few e = (start_held e).few

  pub start_fits : length list ≤ most_prices
  start_fits = prices_fit t.rule cols list h.posed h.prices

  pub start_size : length list ≡ length (take (length list) (replicate {A = ℕ} most_prices 0))
  start_size = h.prices ∙ sym (zeros_size t.rule cols list h.posed h.prices)

  pub start_under : {change : ℕ} → (change ≡ change_of t.rule cols) × (change ≤ most_worth)
      → BetweenLooks t.rule cols map t.rounds (take (length list) (replicate most_prices 0)) change 0 4294967295 list map t.worth
  unfolding rounds_from round_rule
  start_under (c, small) =
      let R = round_rule t.rule cols in
      let z = zeros t.rule cols list h.posed h.prices in
      let all : t.rounds - 0 ≡ t.rounds = omega arith in
      record {
        few = omega arith;
        small = small;
        prices_are = zeros_size t.rule cols list h.posed h.prices;
        list_is = h.prices;
        clean = h.clean;
        leads = rw (z, c, all) (first_same R (replicate (prices_of t.rule) 0) (change_of t.rule cols) 4294967295 list (choice_in (size_of t.rule).count map) h.worth_is (first_limit t.rule cols h.posed) t.rounds);
      }

pub start_ranks : (r : RuleFor) (cols : List ℕ) {p : Size} {ranks : List ℕ} → p ≡ size_of r → ranks ≡ by_worth (turns_by p cols) → ranks ≡ by_worth (turns_by (size_of r) cols)
start_ranks r cols e q = rw e at q

pub ruleset start_cases = (start_held, start_few, start_fits, start_size, start_under, start_ranks, keys_room, keys_given)

-- ---- the list that a choice is made from

module _ (r : RuleFor) (cols ranks relaxed : List ℕ) (e : ranks ≡ by_worth (turns_by (size_of r) cols)) {list : List ℕ} (q : list ≡ with_chosen (choice_in (length ranks) relaxed) ranks) where
  pub listed_numbers : NumbersOf (size_of r).count list
  listed_numbers = list_numbers (size_of r) cols ranks e relaxed list q

  pub better_made : {S S' : List Bool} {worth worth' : ℕ} → BetterKept r cols (chosen_from r cols list) S worth S' worth' → BetterKept r cols (choice_of r cols (choice_in (size_of r).count relaxed)) S worth S' worth'
  unfolding chosen_from
  better_made b = let c : choose_each (fits_of r cols) list (replicate (size_of r).count false) ≡ choice_of r cols (choice_in (size_of r).count relaxed) = choice_made r cols ranks relaxed list e q refl in rw c at b

-- ---- a look, and what comes after it

moved_size : (r : RuleFor) (cols : List ℕ) (relaxed : List Bool) (change : ℕ) (prices : List ℕ) → length (moved_of r cols relaxed change prices) ≡ prices_of r
unfolding moved_of prices_of moved_minutes
moved_size (Shift e) cols relaxed change prices = moved_length (turns_in e cols) e.slopes relaxed change prices ∙ ap (λ (n : ℕ). e.slopes + n) (count_is e.size cols)
moved_size (Hall h) cols relaxed change prices = tab_length shift_minutes _

module _ (r : RuleFor) (cols first : List ℕ) (rounds : ℕ) (prices : List ℕ) (change made limit : ℕ) (list best : List ℕ) (worth : ℕ) (u : BetweenLooks r cols first rounds prices change made limit list best worth)
    (relaxed best' : List ℕ) {seen limit' worth' : ℕ} {list' : List ℕ} (s : seen ≡ rule_limit r cols prices) (q : choice_in (size_of r).count relaxed ≡ relaxed_of r cols prices)
    (l : limit' ≡ cond (ltb seen limit) seen limit) (k : list' ≡ cond (ltb seen limit) prices list)
    (b : BetterKept r cols (choice_of r cols (choice_in (size_of r).count relaxed)) (choice_in (size_of r).count best) worth (choice_in (size_of r).count best') worth') where
  abbrev R : RoundRule
  R = round_rule r cols

  abbrev whole : Stage
  whole = rounds_from r cols rounds (choice_in (size_of r).count first)

  abbrev x : Stage
  x = stage_of (size_of r).count prices change made limit list best worth

  abbrev y : Stage
  y = stage_of (size_of r).count prices change made limit' list' best' worth'

  look_is : looked R x ≡ y
  unfolding looked lower_limit better_choice round_rule
  look_is = sym (rw (l, k, b.choice_is, b.worth_is, s, q))

  module _ {over : Bool} (o : over ≡ (eqb limit' worth' || eqb made rounds)) where
    pub round_stops : {a : Reached} → over ≡ true → Clean (size_of r).count best' → a ≡ record { limit = limit'; worth = worth'; rounds = made }
        → Reaches (size_of r).count (rounds_from r cols rounds (choice_in (size_of r).count first)) a list' best'
    round_stops f c g =
        let z : y ≡ whole = loop_stops R whole rounds x y u.leads look_is o f in
        rw g (record {
          limit = ap (λ (v : Stage). v.limit) z;
          worth = ap (λ (v : Stage). v.worth) z;
          rounds = ap (λ (v : Stage). v.rounds) z;
          list_is = ap (λ (v : Stage). v.list) z;
          choice = ap (λ (v : Stage). v.choice) z;
          clean = c;
        })

    module _ (f : over ≡ false) where
      pub round_left : made < rounds
      round_left = loop_left R whole rounds x y u.leads look_is o u.few f

      pub round_goes : {prices' : List ℕ} {change' : ℕ} → Clean (size_of r).count best' → prices' ≡ moved_of r cols (choice_in (size_of r).count relaxed) change prices
          → (change' ≡ next_change change) × (change' ≤ most_worth) → BetweenLooks r cols first rounds prices' change' (made + 1) limit' list' best' worth'
      unfolding moving round_rule
      round_goes {prices'} {change'} c p (d, small) =
          let m : moving R y ≡ stage_of (size_of r).count prices' change' (made + 1) limit' list' best' worth' = sym (rw (p, d, q)) in
          record {
            few = omega (arith, round_left);
            small = small;
            prices_are = ap (λ (v : List ℕ). length v) p ∙ moved_size r cols (choice_in (size_of r).count relaxed) change prices;
            list_is = ap (λ (v : List ℕ). length v) k ∙ same (ltb seen limit);
            clean = c;
            leads = ap (λ (v : Stage). refined R (rounds - (made + 1)) v) (sym m) ∙ loop_goes R whole rounds x y u.leads look_is o u.few f;
          }
        where
          same : (lower : Bool) → length (cond lower prices list) ≡ prices_of r
          same true = u.prices_are
          same false = u.list_is
