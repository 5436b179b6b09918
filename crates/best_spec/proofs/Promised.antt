-- The best worth of a sheet and its set, beside the planned board of the same sheet. Assumes nothing.
use Prim.Native.Nat.{ℕ, ◌<◌, ◌≤◌}
use mathlib.Core.Path.{◌≡◌, sym, ap, ◌∙◌}
use mathlib.Core.Bool.{Bool}
use mathlib.Core.List.{List}
use native.Mathlib.Omega.{arith}
use lib.ListN.{length, drop}
use lib.Seq.{take_at, drop_at}
use Rattle.refusal.specs.Cause.{first_of}
use Rattle.model.specs.Turns.{NoDrivers}
use Rattle.model.specs.Feasible.{OneTurnASlope}
use Rattle.sheet.specs.Read.{counts_in, turn_count, sheet_causes}
use Rattle.choice_map.specs.Choice.{map_bytes, map_of, choice_in}
use Rattle.choice_map.proofs.Clean.{map_length, map_choice}
use Rattle.instance_spec.specs.Problem.{sheet_turns}
use Rattle.instance_spec.proofs.SheetTurns.{sheet_count, sheet_lengths, sheet_worths_from, sheet_groomers}
use Rattle.plan_spec.proofs.Planned.{planned_back, planned_map}
use Rattle.best_spec.specs.Table.{best_worth, best_choice}
use Rattle.best_spec.specs.Best.{Earned, best_of}
use Rattle.best_spec.specs.Promises.{answered_map, answered_choice, BestOfSheet, BestPromised}
use Rattle.best_spec.proofs.BestCauses.{best_clear, best_is_found}
use Rattle.best_spec.proofs.Optimal.{best_turns, best_set, best_length, best_independent, best_chosen, best_greatest, best_tally, best_planned}
use Rattle.best_spec.proofs.Latest.{best_leaves_out, best_choice_planned}
use Rattle.best_spec.proofs.Own.{groomer_most, groomers_sum}

module _ (s : List ℕ) (z : first_of (sheet_causes s) ≡ 0) (free : NoDrivers (sheet_turns s)) (single : OneTurnASlope (sheet_turns s)) where
  worths : (t : ℕ) → t < (sheet_turns s).count → 0 < (sheet_turns s).worth t
  worths t h = omega (arith, sheet_worths_from s z t (omega (arith, sheet_count s z)))

  -- every sheet that is not refused, without drivers and without a second turn on a slope
  pub best_of_sheet : BestOfSheet s
  best_of_sheet =
      record {
        apart = best_independent (sheet_turns s) (sheet_lengths s z) free single;
        earns = best_chosen (sheet_turns s) (sheet_lengths s z) free single;
        greatest = best_greatest (sheet_turns s) (sheet_lengths s z) free single;
        tallied = (planned_back s z).tallied ∙ sym (best_tally (sheet_turns s) (sheet_lengths s z) free single);
        planned_worth = (planned_back s z).worth ∙ sym (best_planned (sheet_turns s) (sheet_lengths s z) free single);
        planned_map = planned_map s z ∙ ap map_of (sym (best_choice_planned (sheet_turns s) (sheet_lengths s z) free single worths));
        latest = best_leaves_out (sheet_turns s) (sheet_lengths s z) free single;
      }

-- ---- of the entry itself

module _ (s lent : List ℕ) (e : (best_of s lent).answer.refusal ≡ 0) where
  abbrev S : List Bool
  S = best_choice (sheet_turns s)

  accepted : first_of (sheet_causes s) ≡ 0
  accepted = (best_clear s lent e).0

  -- a bit for each turn
  bits : length S ≡ turn_count s
  bits = best_length (sheet_turns s) ∙ sheet_count s accepted

  size : length (map_of S) ≡ map_bytes (turn_count s)
  size = map_length S ∙ ap map_bytes bits

  worth_is : (best_of s lent).answer.worth ≡ best_worth (sheet_turns s)
  worth_is = ap (λ (x : Earned). x.answer.worth) (best_is_found s lent e)

  map_is : answered_map s lent ≡ map_of S
  map_is = rw (best_is_found s lent e) (take_at (map_of S) _ (map_bytes (turn_count s)) size)

  choice_is : answered_choice s lent ≡ S
  choice_is = ap (choice_in (turn_count s)) map_is ∙ ap (λ (n : ℕ). choice_in n (map_of S)) (sym bits) ∙ map_choice S

  numbers : (t : ℕ) → t < (sheet_turns s).count → (1 ≤ (sheet_turns s).groomer t) × ((sheet_turns s).groomer t ≤ (counts_in s).groomers)
  numbers t h = sheet_groomers s accepted t (omega (arith, sheet_count s accepted))

  -- every answer that refuses nothing
  pub best_promised : BestPromised s lent
  best_promised =
      let (z, free, single, room) = best_clear s lent e in
      let best = best_of_sheet s z free single in
      let own = best_set (sheet_turns s) (sheet_lengths s z) free single in
      record {
        set = choice_is;
        places = ap length choice_is ∙ best_length (sheet_turns s);
        apart = rw choice_is best.apart;
        earns = rw (choice_is, worth_is) best.earns;
        latest = λ R f w. rw choice_is (best.latest R (record { feasible = f; earns = w ∙ worth_is }));
        map = map_is ∙ ap map_of (sym choice_is);
        attained = (best_turns (sheet_turns s), own.feasible, own.earns ∙ sym worth_is);
        greatest = λ R f. rw worth_is (best.greatest R f);
        by_groomer_lem = worth_is ∙ groomers_sum (sheet_turns s) (counts_in s).groomers numbers;
        groomer_most = groomer_most (sheet_turns s) (sheet_lengths s z) free single;
        planned_worth = rw worth_is best.planned_worth;
        planned_map = map_is ∙ sym best.planned_map;
        behind = rw (best_is_found s lent e, size) (drop_at (map_of S) (drop (map_bytes (turn_count s)) lent) (map_bytes (turn_count s)) size);
      }
