-- The entry keeps its promises for every sheet that it does not refuse. Assumes nothing.
use mathlib.Core.Path.{◌≡◌, sym, ap, ◌∙◌}
use mathlib.Core.Logic.{◌≢◌}
use mathlib.Core.Bool.{true}
use mathlib.Core.List.{List, ◌++◌}
use Prim.Native.Nat.{ℕ, ◌+◌, ◌≤◌}
use native.Mathlib.Omega.{arith}
use native.Mathlib.Nat.{pow-le-pow_right}
use lib.ListN.{length, take, drop}
use lib.Seq.{take_at, drop_at}
use Rattle.refusal.specs.Cause.{first_of}
use Rattle.model.specs.Pick.{steps}
use Rattle.model.specs.Ceiling.{ceiling}
use Rattle.model.proofs.Promised.{planned_promises}
use Rattle.improve_spec.specs.Search.{Progress, search_all}
use Rattle.improve_spec.specs.Promises.{visits_made, SearchPromises}
use Rattle.improve_spec.specs.Sets.{Compares}
use Rattle.improve_spec.proofs.Firsts.{first_stays}
use Rattle.improve_spec.proofs.Sets.{search_compares}
use Rattle.improve_spec.proofs.Promised.{visits_most, visits_empty, none_allowed, search_promises}
use Rattle.sheet.specs.Read.{turn_count, sheet_causes}
use Rattle.choice_map.specs.Choice.{map_bytes, map_of, choice_in}
use Rattle.choice_map.proofs.Clean.{map_length, map_choice}
use Rattle.board.specs.Board.{board_worth, board_map}
use Rattle.instance_spec.specs.Problem.{sheet_turns}
use Rattle.instance_spec.proofs.SheetTurns.{sheet_count, sheet_lengths}
use Rattle.plan_spec.specs.Plan.{planned_board}
use Rattle.plan_spec.proofs.Planned.{planned_back, planned_map}
use Rattle.improve_spec.specs.Improve.{most_searched, improve_causes, Improvement, improved_for, improve_of}
use Rattle.improve_spec.specs.SheetPromises.{answered_map, answered_choice, ImprovedSheet, PlanComesBack}
use Rattle.improve_spec.proofs.ImproveCauses.{improve_number, improve_answers, clear_iff}

module _ (s : List ℕ) (limit : ℕ) (lent : List ℕ) (z : (improve_of s limit lent).answer.refusal ≡ 0) where
  none_first : first_of (improve_causes s (length lent)) ≡ 0
  none_first = sym (improve_number s lent limit) ∙ z

  answered : improve_of s limit lent ≡ improved_for (sheet_turns s) limit lent
  answered = improve_answers s lent limit none_first

  clear : (first_of (sheet_causes s) ≡ 0) × (turn_count s ≤ most_searched) × (map_bytes (turn_count s) ≤ length lent)
  clear = (clear_iff s (length lent)).0 none_first

  sound : first_of (sheet_causes s) ≡ 0
  sound = clear.0

  promised : SearchPromises (sheet_turns s) limit
  promised = search_promises (sheet_turns s) limit (sheet_lengths s sound)

  sum_is : (improved_for (sheet_turns s) limit lent).answer.worth + (improved_for (sheet_turns s) limit lent).answer.above ≡ ceiling (sheet_turns s) (steps (sheet_turns s))
  unfolding improved_for
  sum_is = omega (arith, promised.within_ceiling)

  -- ---- the answer's fields

  -- neither the limit nor what the lent bytes held has a part in what is refused
  worth_at : (more : ℕ) (place : List ℕ) → map_bytes (turn_count s) ≤ length place → (improve_of s more place).answer.worth ≡ (search_all (sheet_turns s) more).worth
  unfolding improved_for
  worth_at more place l = ap (λ (x : Improvement). x.answer.worth) (improve_answers s place more ((clear_iff s (length place)).1 (sound, clear.1, l)))

  worth_is : (improve_of s limit lent).answer.worth ≡ (search_all (sheet_turns s) limit).worth
  worth_is = worth_at limit lent clear.2

  whole_is : (improve_of s limit lent).answer.whole ≡ (search_all (sheet_turns s) limit).whole
  unfolding improved_for
  whole_is = ap (λ (x : Improvement). x.answer.whole) answered

  visits_are : (improve_of s limit lent).answer.visits ≡ visits_made (sheet_turns s) limit
  unfolding improved_for
  visits_are = ap (λ (x : Improvement). x.answer.visits) answered

  best_map : List ℕ
  best_map = map_of (search_all (sheet_turns s) limit).best

  lent_is : (improve_of s limit lent).lent ≡ best_map ++ drop (length best_map) lent
  unfolding improved_for best_map
  lent_is = ap (λ (x : Improvement). x.lent) answered

  map_size : length best_map ≡ map_bytes (turn_count s)
  unfolding best_map
  map_size = map_length (search_all (sheet_turns s) limit).best ∙ ap map_bytes (promised.places ∙ sheet_count s sound)

  map_first : take (map_bytes (turn_count s)) (improve_of s limit lent).lent ≡ best_map
  map_first = rw lent_is (take_at best_map (drop (length best_map) lent) (map_bytes (turn_count s)) map_size)

  bytes_behind : drop (map_bytes (turn_count s)) (improve_of s limit lent).lent ≡ drop (map_bytes (turn_count s)) lent
  bytes_behind = rw (lent_is, map_size) (drop_at best_map (drop (map_bytes (turn_count s)) lent) (map_bytes (turn_count s)) map_size)

  sum_whole : (improve_of s limit lent).answer.worth + (improve_of s limit lent).answer.above ≡ ceiling (sheet_turns s) (steps (sheet_turns s))
  sum_whole = ap (λ (x : Improvement). x.answer.worth + x.answer.above) answered ∙ sum_is

  -- ---- the choice in the bytes

  bits : length (search_all (sheet_turns s) limit).best ≡ turn_count s
  bits = promised.places ∙ sheet_count s sound

  choice_is : answered_choice s limit lent ≡ (search_all (sheet_turns s) limit).best
  unfolding best_map
  choice_is =
      ap (choice_in (turn_count s)) map_first ∙ ap (λ (n : ℕ). choice_in n (map_of (search_all (sheet_turns s) limit).best)) (sym bits)
      ∙ map_choice (search_all (sheet_turns s) limit).best

  map_held : answered_map s limit lent ≡ map_of (answered_choice s limit lent)
  unfolding best_map
  map_held = map_first ∙ ap map_of (sym choice_is)

  compares_are : Compares (sheet_turns s) limit (search_all (sheet_turns s) limit).worth (search_all (sheet_turns s) limit).best
  compares_are = search_compares (sheet_turns s) (sheet_lengths s sound) limit

  kept : (improve_of s limit lent).answer.worth ≤ board_worth (planned_board s) → answered_map s limit lent ≡ board_map (planned_board s)
  unfolding best_map
  kept l =
      map_first ∙ ap map_of (first_stays (sheet_turns s) compares_are.first_most (omega (arith, worth_is, promised.earns, (planned_back s sound).worth)))
      ∙ sym (planned_map s sound)

  pub improved_sheet : ImprovedSheet s limit lent
  improved_sheet =
      record {
        found = answered;
        promises = promised;
        up_to_ceiling = sum_whole;
        bounded = λ R f. omega (arith, sum_whole, (planned_promises (sheet_turns s) (sheet_lengths s sound)).within_ceiling R f);
        countable = omega (arith, visits_most (sheet_turns s), pow-le-pow_right {n = 2} (omega arith) {i = (sheet_turns s).count} {j = 64} (omega (arith, sheet_count s sound, clear.1)));
        all_used = λ l. visits_are ∙ promised.all_used l;
        all_made = λ l. visits_are ∙ promised.all_made l;
        ran_whole = (λ w. promised.ran_whole.0 (sym whole_is ∙ w), λ l. whole_is ∙ promised.ran_whole.1 l);
        greatest = λ w R f. omega (arith, worth_is, promised.greatest (sym whole_is ∙ w) R f);
        room = clear.2;
        larger = λ more l place r. omega (arith, worth_is, worth_at more place r, promised.larger more l);
        places = ap length choice_is ∙ promised.places;
        apart = rw choice_is promised.apart;
        earns = rw (choice_is, worth_is) promised.earns;
        map = map_held;
        behind = bytes_behind;
        no_less = omega (arith, worth_is, promised.no_less, (planned_back s sound).worth);
        starts = (planned_back s sound).chosen_turns;
        compares = rw (worth_is, choice_is) compares_are;
        plan_kept = kept;
      }

  -- ---- the ends

  -- without turns every search is whole, whatever it is allowed
  pub no_turns_whole : turn_count s ≡ 0 → (improve_of s limit lent).answer.whole ≡ true
  no_turns_whole e = improved_sheet.ran_whole.1 (omega (arith, visits_empty (sheet_turns s) (sheet_count s sound ∙ e)))

-- with no visit allowed, and a turn to visit, the planned board's set comes back
pub none_allowed_plan : (s lent : List ℕ) → (improve_of s 0 lent).answer.refusal ≡ 0 → turn_count s ≢ 0 → PlanComesBack s 0 lent
none_allowed_plan s lent z h =
    let accepted = sound s 0 lent z in
    let e = none_allowed (sheet_turns s) (λ q. h (sym (sheet_count s accepted) ∙ q)) in
    let same : (improve_of s 0 lent).answer.worth ≡ board_worth (planned_board s) = worth_is s 0 lent z ∙ ap (λ (x : Progress). x.worth) e ∙ sym (planned_back s accepted).worth in
    record { worth_is = same; map_is = kept s 0 lent z (omega (arith, same)) }
