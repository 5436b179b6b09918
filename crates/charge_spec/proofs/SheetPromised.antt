-- What the entry's answer promises, where it refuses nothing. Assumes nothing.
use Prim.Native.Nat.{ℕ, ◌≤◌, ◌<◌}
use mathlib.Core.Path.{◌≡◌, sym, ap, ◌∙◌}
use mathlib.Core.Bool.{Bool}
use mathlib.Core.List.{List}
use lib.ListN.{length, drop}
use lib.Seq.{take_at, drop_at}
use Rattle.sheet.specs.Read.{turn_count}
use Rattle.choice_map.specs.Choice.{map_bytes, map_of, choice_in}
use Rattle.choice_map.proofs.Clean.{map_length, map_choice}
use Rattle.instance_spec.proofs.SheetTurns.{sheet_count_for}
use Rattle.charge_spec.specs.Hall.{hall_gap}
use Rattle.charge_spec.specs.Plan.{wide_choice, small_choice, worth_in, hall_choice, hall_worth}
use Rattle.charge_spec.proofs.Halls.{greater_first, greater_second, plan_length}
use Rattle.charge_spec.specs.Charge.{charging_sheet, hall_of, charge_of, Charged}
use Rattle.charge_spec.specs.SheetPromises.{answered_map, answered_choice, ChargePromised}
use Rattle.charge_spec.proofs.ChargingSheets.{charging_sound}
use Rattle.charge_spec.proofs.ChargeCauses.{charge_accepted, charge_answers, charge_promises}

module _ (s lent : List ℕ) (e : (charge_of s lent).answer.refusal ≡ 0) where
  abbrev S : List Bool
  S = hall_choice (hall_of s)

  -- a bit for each window
  bits : length S ≡ turn_count s
  unfolding hall_of
  bits = plan_length (hall_of s) ∙ sheet_count_for charging_sheet charging_sound hall_gap s (charge_accepted s lent e).0

  places : length (map_of S) ≡ map_bytes (turn_count s)
  places = map_length S ∙ ap map_bytes bits

  worth_is : (charge_of s lent).answer.worth ≡ hall_worth (hall_of s)
  worth_is = ap (λ (x : Charged). x.answer.worth) (charge_answers s lent e)

  map_is : answered_map s lent ≡ map_of S
  map_is = rw (charge_answers s lent e) (take_at (map_of S) _ (map_bytes (turn_count s)) places)

  choice_is : answered_choice s lent ≡ S
  choice_is = ap (choice_in (turn_count s)) map_is ∙ ap (λ (n : ℕ). choice_in n (map_of S)) (sym bits) ∙ map_choice S

  -- it is the plan of greater worth
  wide_is : worth_in (hall_of s) (small_choice (hall_of s)) < worth_in (hall_of s) (wide_choice (hall_of s)) → answered_choice s lent ≡ wide_choice (hall_of s)
  unfolding hall_choice
  wide_is l = choice_is ∙ greater_first (hall_of s) (wide_choice (hall_of s)) (small_choice (hall_of s)) l

  small_is : worth_in (hall_of s) (wide_choice (hall_of s)) ≤ worth_in (hall_of s) (small_choice (hall_of s)) → answered_choice s lent ≡ small_choice (hall_of s)
  unfolding hall_choice
  small_is l = choice_is ∙ greater_second (hall_of s) (wide_choice (hall_of s)) (small_choice (hall_of s)) l

  -- every answer that refuses nothing
  pub charge_promised : ChargePromised s lent
  unfolding hall_worth
  charge_promised =
      let p = charge_promises s lent e in
      record {
        allowed = rw choice_is p.allowed;
        one_kind = rw choice_is p.one_kind;
        earns = rw (choice_is, worth_is);
        map = map_is ∙ ap map_of (sym choice_is);
        behind = rw (charge_answers s lent e, places) (drop_at (map_of S) (drop (map_bytes (turn_count s)) lent) (map_bytes (turn_count s)) places);
        bound = λ R r. rw worth_is (p.hall_bound R r);
        covers_wide = rw worth_is p.covers_wide;
        covers_small = rw worth_is p.covers_small;
        wide_plan = wide_is;
        small_plan = small_is;
        wide_full = λ l. rw (wide_is l) p.wide_full;
        small_full = λ l. rw (small_is l) p.small_full;
      }
