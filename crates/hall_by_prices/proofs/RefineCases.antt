-- The rounds' entry by its cases, each premise in the form in which the code's calls and tests leave it. Assumes nothing.
use Prim.Native.Nat.{ℕ, ◌≤◌, ◌<◌}
use mathlib.Core.Path.{◌≡◌, refl, sym, ap, ◌∙◌}
use mathlib.Core.List.{List, ◌++◌}
use native.Mathlib.Omega.{arith}
use lib.ListN.{length, take, drop, replicate}
use lib.Seq.{length-take-le}
use Rattle.refusal.specs.Number.{buffer_too_small}
use Rattle.refusal.proofs.Outcome.{tried_stops, tried_last}
use Rattle.turn.specs.Turn.{shift_minutes}
use Rattle.sheet.specs.Kind.{Kind}
use Rattle.sheet.specs.declared.answer.ReadAnswer.{ReadAnswer}
use Rattle.sheet.specs.Read.{turn_count, answer_for}
use Rattle.choice_map.specs.Choice.{map_bytes, choice_in, map_of, Clean}
use Rattle.choice_map.proofs.Clean.{clean_map, map_choice, map_clean}
use Rattle.instance.specs.Columns.{column_places, turns_by}
use Rattle.instance.specs.Load.{PosedFor}
use Rattle.instance.proofs.Rows.{count_is}
use Rattle.charge_spec.specs.Hall.{hall_gap}
use Rattle.charge_spec.specs.Plan.{hall_choice, hall_worth, worth_in}
use Rattle.charge_spec.proofs.Halls.{plan_length}
use Rattle.charge_spec.specs.Charge.{charging_sheet}
use Rattle.charge.proofs.Charges.{charge_tried, accepted, counts_are, hall_is}
use Rattle.refine_spec.specs.Rounds.{RoundRule, Stage, start_from, refined, first_change}
use Rattle.refine_spec.specs.Shift.{greatest_worth}
use Rattle.price_rule.specs.Rules.{Hall, size_of, prices_of, change_of, rule_limit, relaxed_of, fits_of, moved_of, choice_of, rule_worth, round_rule, RulePosed}
use Rattle.price_rounds.specs.declared.Reached.{Reached}
use Rattle.price_rounds.specs.Rounds.{rounds_from, Reaches, RoundsStart}
use Rattle.hall_by_prices_spec.specs.declared.ChargeRefineAnswer.{ChargeRefineAnswer}
use Rattle.hall_by_prices_spec.specs.Hall.{hall_rule, hall_start, hall_refined}
use Rattle.hall_by_prices_spec.specs.Refine.{few_bytes, few_prices, charge_refine_causes, charge_refinement, not_charge_refined, charge_refine_of}
use Rattle.hall_by_prices_spec.proofs.RefineCauses.{places_iff, clear_iff, charge_refine_answers}
use Rattle.hall_by_prices_spec.specs.Answer.{charge_refined_by, charge_refine_refused}
use Rattle.hall_look.specs.declared.HallSize.{HallSize}
use Rattle.hall_look.specs.Look.{hall_for, HallPosed}

-- ---- the rounds from the hall's plan

module _ (h : HallSize) (cols : List ℕ) {map : List ℕ} (m : map ≡ map_of (hall_choice (hall_for h cols))) where
  plan_size : length (hall_choice (hall_for h cols)) ≡ h.size.count
  plan_size = plan_length (hall_for h cols) ∙ count_is h.size cols

  plan_choice : choice_in h.size.count map ≡ hall_choice (hall_for h cols)
  plan_choice = ap (choice_in h.size.count) m ∙ ap (λ (n : ℕ). choice_in n (map_of (hall_choice (hall_for h cols)))) (sym plan_size) ∙ map_choice (hall_choice (hall_for h cols))

  plan_clean : Clean h.size.count map
  plan_clean = let c : Clean (length (hall_choice (hall_for h cols))) (map_of (hall_choice (hall_for h cols))) = map_clean (hall_choice (hall_for h cols)) in rw m (rw plan_size at c)

  pub plan_starts : (rounds : ℕ) (list room : List ℕ) {worth : ℕ} → HallPosed h cols → worth ≡ hall_worth (hall_for h cols) → length list ≡ shift_minutes → length room ≡ column_places
      → RoundsStart (record { rule = Hall h; rounds = rounds; worth = worth }) cols list map room
  unfolding hall_worth worth_in rule_worth size_of prices_of RulePosed
  plan_starts rounds list room q w l p = record { posed = q; prices = l; clean = plan_clean; worth_is = w ∙ ap (worth_in (hall_for h cols)) (sym plan_choice); places = p }

  -- the rule that the functions compute is the hall's
  rule_is : round_rule (Hall h) cols ≡ hall_rule (hall_for h cols) h.vehicles
  unfolding round_rule rule_limit relaxed_of fits_of moved_of choice_of rule_worth size_of hall_rule worth_in
  rule_is = refl

  rounds_are : (rounds : ℕ) → rounds_from (Hall h) cols rounds (hall_choice (hall_for h cols)) ≡ hall_refined (hall_for h cols) h.vehicles rounds
  unfolding rounds_from change_of prices_of hall_refined hall_start greatest_worth
  rounds_are rounds = ap (λ (R : RoundRule). refined R rounds (start_from R (first_change 8 (greatest_worth (turns_by h.size cols))) (replicate shift_minutes 0) (hall_choice (hall_for h cols)))) rule_is

  pub plan_reaches : (rounds : ℕ) {r : Reached} {list map' : List ℕ} → Reaches (size_of (Hall h)).count (rounds_from (Hall h) cols rounds (choice_in (size_of (Hall h)).count map)) r list map'
      → Reaches h.size.count (hall_refined (hall_for h cols) h.vehicles rounds) r list map'
  unfolding size_of
  plan_reaches rounds z = rw (sym (rounds_are rounds)) (rw plan_choice at z)

pub ruleset plan_cases = (plan_starts, plan_reaches)

-- ---- a map and a price list in lent places

pub lent_bytes : (map : List ℕ) (n : ℕ) {size : ℕ} → size ≡ map_bytes n → map_bytes n ≤ length map → length (take size map) ≡ map_bytes n
lent_bytes map n {size} m l = length-take-le size map (omega (arith, m)) ∙ m

pub lent_numbers : (prices : List ℕ) → shift_minutes ≤ length prices → length (take shift_minutes prices) ≡ shift_minutes
lent_numbers prices l = length-take-le shift_minutes prices l

pub lent_places : (prices : List ℕ) → shift_minutes ≤ length prices → shift_minutes ≡ length (take shift_minutes prices)
lent_places prices l = sym (lent_numbers prices l)

module _ (h : HallSize) (cols : List ℕ) (rounds : ℕ) (map prices : List ℕ) {size : ℕ} (m : size ≡ map_bytes h.size.count) (room : shift_minutes ≤ length prices) {r : Reached} {list map' : List ℕ}
    (q : Reaches h.size.count (hall_refined (hall_for h cols) h.vehicles rounds) r list map') where
  abbrev x : Stage
  x = hall_refined (hall_for h cols) h.vehicles rounds

  map_made : map' ≡ map_of x.choice
  map_made = clean_map h.size.count map' q.clean ∙ ap map_of q.choice

  pub rounds_written : length list ≡ length (take shift_minutes prices) → charge_refined_by (record { refusal = 0; worth = r.worth; limit = r.limit; rounds = r.rounds }) (map' ++ drop size map) (list ++ drop shift_minutes prices)
      ≡ charge_refinement (hall_refined (hall_for h cols) h.vehicles rounds) map prices
  unfolding charge_refinement
  rounds_written k =
      let s : size ≡ length (map_of x.choice) = m ∙ sym q.clean.size ∙ ap (λ (v : List ℕ). length v) map_made in
      let n : shift_minutes ≡ length x.list = sym (lent_numbers prices room) ∙ sym k ∙ ap (λ (v : List ℕ). length v) q.list_is in
      let a : map' ++ drop size map ≡ map_of x.choice ++ drop (length (map_of x.choice)) map = ap (λ (v : List ℕ). v ++ drop size map) map_made ∙ ap (λ (i : ℕ). map_of x.choice ++ drop i map) s in
      let b : list ++ drop shift_minutes prices ≡ x.list ++ drop (length x.list) prices = ap (λ (v : List ℕ). v ++ drop shift_minutes prices) q.list_is ∙ ap (λ (i : ℕ). x.list ++ drop i prices) n in
      rw (q.worth, q.limit, q.rounds, a, b)

pub ruleset written_cases = (lent_bytes, lent_numbers, lent_places, rounds_written)

-- ---- the answer

module _ (s : List ℕ) (rounds : ℕ) (map prices : List ℕ) {K : Kind} {r : ReadAnswer} (k : K ≡ charging_sheet) (e : r ≡ answer_for K s) where
  pub refine_fault : {x : ChargeRefineAnswer} → (r.refusal ≡ 0 → ⊥) → x ≡ charge_refine_refused r.refusal → charge_refined_by x map prices ≡ charge_refine_of s rounds map prices
  unfolding charge_refine_of charge_refine_causes
  refine_fault f g = rw g (tried_stops (charge_tried s k e) _ (λ k. not_charge_refined k map prices) _ f)

  module _ (f : r.refusal ≡ 0) where
    module _ {size : ℕ} (m : size ≡ map_bytes r.turns) where
      size_is : size ≡ map_bytes (turn_count s)
      size_is = m ∙ ap map_bytes (counts_are s k e f).2

      pub refine_short : {x : ChargeRefineAnswer} → length map < size → x ≡ charge_refine_refused buffer_too_small → charge_refined_by x map prices ≡ charge_refine_of s rounds map prices
      unfolding charge_refine_of charge_refine_causes
      refine_short l g = rw g (tried_last (charge_tried s k e) _ (λ k. not_charge_refined k map prices) f buffer_too_small (omega arith) ((places_iff s (length map) (length prices)).1 (few_bytes (omega (arith, size_is)))))

      pub refine_done : (cols : List ℕ) {x : ChargeRefineAnswer} {map' prices' : List ℕ} → (r.refusal ≡ 0 → (gap : ℕ) → PosedFor gap s cols) → size ≤ length map → shift_minutes ≤ length prices
          → charge_refined_by x map' prices' ≡ charge_refinement (hall_refined (hall_for (record { units = r.groomers; vehicles = r.slopes; size = record { count = r.turns; gap = hall_gap } }) cols) r.slopes rounds) map prices
          → charge_refined_by x map' prices' ≡ charge_refine_of s rounds map prices
      refine_done cols w l p z =
          z ∙ rw (hall_is s k e f cols w, (counts_are s k e f).1) (sym (charge_refine_answers s rounds map prices ((clear_iff s (length map) (length prices)).1 (accepted s k e f, omega (arith, size_is), p))))

    pub refine_few : {x : ChargeRefineAnswer} → length prices < shift_minutes → x ≡ charge_refine_refused buffer_too_small → charge_refined_by x map prices ≡ charge_refine_of s rounds map prices
    unfolding charge_refine_of charge_refine_causes
    refine_few l g = rw g (tried_last (charge_tried s k e) _ (λ k. not_charge_refined k map prices) f buffer_too_small (omega arith) ((places_iff s (length map) (length prices)).1 (few_prices l)))
