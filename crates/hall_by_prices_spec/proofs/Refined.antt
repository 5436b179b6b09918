-- What the rounds' entry promises, where it refuses nothing. Assumes nothing.
use Prim.Native.Nat.{ℕ, ◌≤◌}
use mathlib.Core.Path.{◌≡◌, sym, ap, ◌∙◌, refl}
use mathlib.Core.List.{List}
use lib.ListN.{length, drop, replicate}
use lib.Seq.{take_at, drop_at}
use Rattle.refine_spec.proofs.Kept.{lowest_kept, best_kept}
use Rattle.refine_spec.proofs.Rounds.{Given, given_made, given_ended, given_more_worth, given_more_limit, given_not_before, given_same}
use Rattle.refusal.specs.Cause.{first_of}
use Rattle.refusal.proofs.Outcome.{enough_iff}
use Rattle.sheet.proofs.Readings.{causes_numbered}
use Rattle.charge_spec.proofs.ChargingSheets.{charging_sound}
use Rattle.turn.specs.Turn.{shift_minutes}
use Rattle.sheet.specs.Read.{counts_in, turn_count, causes_for}
use Rattle.refusal.specs.Written.{at_front}
use Rattle.choice_map.specs.Choice.{map_bytes, map_of, choice_in}
use Rattle.choice_map.proofs.Clean.{map_length, map_choice}
use Rattle.charge_spec.specs.Hall.{Hall, Allowed}
use Rattle.charge_spec.specs.Plan.{hall_worth, hall_choice}
use Rattle.charge_spec.specs.Promises.{worth_of_windows}
use Rattle.limit_spec.specs.Limit.{limit_is}
use Rattle.charge_spec.specs.Charge.{charging_sheet, hall_of, Charged, charge_causes, charge_of}
use Rattle.charge_spec.proofs.ChargeCauses.{charge_number, charge_answers}
use Rattle.refine_spec.specs.Rounds.{Stage, start_from, LowestKept, BestKept}
use Rattle.hall_by_prices_spec.specs.Hall.{hall_refined, hall_rule, hall_start}
use Rattle.hall_by_prices_spec.specs.Limit.{sheet_hall_limit, charge_limit_of}
use Rattle.hall_by_prices_spec.specs.Refine.{ChargeRefinement, charge_refine_causes, charge_refinement, charge_refine_of}
use Rattle.hall_by_prices_spec.specs.Promises.{refined_map, refined_windows, refined_minutes, sheet_rule, sheet_change, ChargeRefinePromised}
use Rattle.hall_by_prices_spec.proofs.LimitCauses.{charge_limit_is}
use Rattle.hall_by_prices_spec.proofs.Promised.{window_count_lem, vehicle_numbers}
use Rattle.hall_by_prices_spec.proofs.RefineCauses.{clear_iff, charge_refine_number, charge_refine_answers}
use Rattle.hall_by_prices_spec.proofs.HallRounds.{rounds_lists, rounds_limit, rounds_worth, rounds_choice, rounds_no_less, rounds_within, rounds_worth_within}

-- what is lent after the front stays
front_rest : (text lent : List ℕ) (n : ℕ) → length text ≡ n → drop n (at_front text lent) ≡ drop n lent
front_rest text lent n e = drop_at text (drop (length text) lent) n e ∙ ap (λ (k : ℕ). drop k lent) e

-- the numbers returned are those of the last stage
module _ (s : List ℕ) (rounds : ℕ) (map prices : List ℕ) (e : (charge_refine_of s rounds map prices).refusal ≡ 0) where
  none_there : first_of (charge_refine_causes s (length map) (length prices)) ≡ 0
  none_there = sym (charge_refine_number s rounds map prices) ∙ e

  answer : charge_refine_of s rounds map prices ≡ charge_refinement (hall_refined (hall_of s) (counts_in s).slopes rounds) map prices
  answer = charge_refine_answers s rounds map prices none_there

  given : let r = charge_refine_of s rounds map prices in Given (hall_refined (hall_of s) (counts_in s).slopes rounds) r.worth r.limit r.rounds
  unfolding charge_refinement
  given =
      record {
        worth_is = ap (λ (x : ChargeRefinement). x.worth) answer;
        limit_is_lem = ap (λ (x : ChargeRefinement). x.limit) answer;
        rounds_is = ap (λ (x : ChargeRefinement). x.rounds) answer;
      }

module _ (s : List ℕ) (rounds : ℕ) (map prices : List ℕ) (e : (charge_refine_of s rounds map prices).refusal ≡ 0) where
  -- the sheet's hall, its vehicles, and the last stage
  abbrev H : Hall
  H = hall_of s

  abbrev vehicles : ℕ
  vehicles = (counts_in s).slopes

  abbrev after : Stage
  after = hall_refined H vehicles rounds

  clear : (first_of (causes_for charging_sheet s) ≡ 0) × (map_bytes (turn_count s) ≤ length map) × (shift_minutes ≤ length prices)
  clear = (clear_iff s (length map) (length prices)).0 (none_there s rounds map prices e)

  sound : first_of (causes_for charging_sheet s) ≡ 0
  sound = clear.0

  -- the plan of the hall is not refused either
  plan_worth : (charge_of s map).answer.worth ≡ hall_worth H
  unfolding charge_causes
  plan_worth =
      ap (λ (x : Charged). x.answer.worth)
      (charge_answers s map (charge_number s map ∙ (enough_iff (causes_for charging_sheet s) (length map) (map_bytes (turn_count s)) (causes_numbered charging_sheet charging_sound.numbers s)).1 (sound, clear.1)))

  -- ---- what is written

  -- a bit for each window
  bits : length after.choice ≡ turn_count s
  bits = (rounds_choice H vehicles rounds).1 ∙ window_count_lem s sound

  map_size : length (map_of after.choice) ≡ map_bytes (turn_count s)
  map_size = map_length after.choice ∙ ap map_bytes bits

  map_front : refined_map s rounds map prices ≡ map_of after.choice
  unfolding charge_refinement
  map_front = rw (answer s rounds map prices e) (take_at (map_of after.choice) _ (map_bytes (turn_count s)) map_size)

  windows_are : refined_windows s rounds map prices ≡ after.choice
  windows_are = ap (choice_in (turn_count s)) map_front ∙ ap (λ (n : ℕ). choice_in n (map_of after.choice)) (sym bits) ∙ map_choice after.choice

  minutes_are : refined_minutes s rounds map prices ≡ after.list
  unfolding charge_refinement
  minutes_are = rw (answer s rounds map prices e) (take_at after.list _ shift_minutes (rounds_lists H vehicles rounds).1.minutes)

  map_behind : drop (map_bytes (turn_count s)) (charge_refine_of s rounds map prices).map ≡ drop (map_bytes (turn_count s)) map
  unfolding charge_refinement
  map_behind = rw (answer s rounds map prices e) (front_rest (map_of after.choice) map (map_bytes (turn_count s)) map_size)

  prices_behind : drop shift_minutes (charge_refine_of s rounds map prices).prices ≡ drop shift_minutes prices
  unfolding charge_refinement
  prices_behind = rw (answer s rounds map prices e) (front_rest after.list prices shift_minutes (rounds_lists H vehicles rounds).1.minutes)

  -- ---- the limit

  limit_written : charge_limit_of s (refined_minutes s rounds map prices) ≡ limit_is (charge_refine_of s rounds map prices).limit
  unfolding sheet_hall_limit
  limit_written =
      rw (minutes_are, (given s rounds map prices e).limit_is_lem, rounds_limit H vehicles rounds) (charge_limit_is s after.list sound (rounds_lists H vehicles rounds).1.minutes)

  all_within : (R : List ℕ) → Allowed H R → worth_of_windows H R ≤ (charge_refine_of s rounds map prices).limit
  all_within R a = rw (given s rounds map prices e).limit_is_lem (rounds_within H vehicles rounds (vehicle_numbers s sound) R a)

  -- ---- what is kept

  prices_first : LowestKept (sheet_rule s) (sheet_change s) (replicate shift_minutes 0) (charge_refine_of s rounds map prices).rounds (charge_refine_of s rounds map prices).limit (refined_minutes s rounds map prices)
  unfolding hall_refined hall_start
  prices_first =
      rw (minutes_are, (given s rounds map prices e).rounds_is, (given s rounds map prices e).limit_is_lem)
      (lowest_kept (sheet_rule s) (sheet_change s) (replicate shift_minutes 0) (hall_choice H) rounds)

  choice_first : BestKept (sheet_rule s) (sheet_change s) (replicate shift_minutes 0) (hall_choice H) (charge_refine_of s rounds map prices).rounds (refined_windows s rounds map prices)
  unfolding hall_refined hall_start
  choice_first =
      rw (windows_are, (given s rounds map prices e).rounds_is) (best_kept (sheet_rule s) (sheet_change s) (replicate shift_minutes 0) (hall_choice H) rounds)

  -- every answer that refuses nothing
  pub charge_refine_promised : ChargeRefinePromised s rounds map prices
  unfolding hall_refined hall_start start_from
  charge_refine_promised =
      let R = hall_rule H vehicles in
      let start = hall_start H vehicles in
      let g = given s rounds map prices e in
      record {
        allowed = rw windows_are (rounds_choice H vehicles rounds).0;
        map_is = map_front ∙ ap map_of (sym windows_are);
        worth_is = rw (windows_are, (given s rounds map prices e).worth_is) (sym (rounds_worth H vehicles rounds));
        no_less = rw (plan_worth, (given s rounds map prices e).worth_is) (rounds_no_less H vehicles rounds);
        limit_is_lem = limit_written;
        within = all_within;
        worth_within = rw ((given s rounds map prices e).worth_is, (given s rounds map prices e).limit_is_lem) (rounds_worth_within H vehicles rounds (vehicle_numbers s sound));
        best = λ q R a. rw (windows_are, ← rounds_worth H vehicles rounds, ← (given s rounds map prices e).worth_is, ← q) (all_within R a);
        prices_kept = prices_first;
        choice_kept = choice_first;
        more_worth = λ k m p h o. given_more_worth R start refl rounds g k (given s k m p o) h;
        more_limit = λ k m p h o. given_more_limit R start refl rounds g k (given s k m p o) h;
        places_apart = λ m p o. given_same g (given s rounds m p o);
        made = given_made R start refl rounds g;
        ended = given_ended R start refl rounds g;
        not_before = λ k m p h o. given_not_before R start refl rounds g k (given s k m p o) h;
        map_rest = map_behind;
        prices_rest = prices_behind;
      }
