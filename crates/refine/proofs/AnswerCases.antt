-- The entry's answer by its cases, each premise in the form in which the code's calls and tests leave it. Assumes nothing.
use Prim.Native.Nat.{ℕ, ◌+◌, ◌≤◌, ◌<◌}
use mathlib.Core.Path.{◌≡◌, refl, sym, ap, ◌∙◌}
use mathlib.Core.Bool.{Bool}
use mathlib.Core.List.{List, ◌++◌}
use native.Mathlib.Omega.{arith}
use lib.ListN.{length, take, drop, replicate}
use lib.Seq.{length-take-le}
use Rattle.refusal.specs.Number.{buffer_too_small}
use Rattle.refusal.proofs.Outcome.{unless_none, tried_stops, tried_last}
use Rattle.wire.specs.Number.{bytes_of, puts}
use Rattle.wire.proofs.Puts.{puts_length}
use Rattle.model.specs.Turns.{Turns}
use Rattle.model.specs.Choice.{chosen, fits, choice, worth_of_choice}
use Rattle.sheet.specs.declared.answer.ReadAnswer.{ReadAnswer}
use Rattle.sheet.specs.Kind.{most_turns}
use Rattle.sheet.specs.Read.{counts_in, turn_count}
use Rattle.best_spec.specs.Table.{best_worth, best_choice}
use Rattle.choice_map.specs.Choice.{map_bytes, choice_in, map_of, Clean}
use Rattle.choice_map.proofs.Clean.{choice_length, clean_map}
use Rattle.board.specs.Board.{worth_place, board_header, board_length}
use Rattle.instance.specs.declared.columns.Size.{Size}
use Rattle.instance.specs.Columns.{column_places, turns_by, Held}
use Rattle.instance_spec.specs.Problem.{sheet_turns}
use Rattle.instance.specs.Load.{shift_size, Loaded}
use Rattle.instance_spec.proofs.SheetTurns.{sheet_groomers}
use Rattle.instance.proofs.Rows.{count_is}
use Rattle.selection.proofs.Unchosen.{zeros_size}
use Rattle.plan_spec.specs.Plan.{board_for}
use Rattle.limit_spec.specs.Prices.{price_sum, limit_by}
use Rattle.limit_spec.specs.Limit.{price_count}
use Rattle.limit_spec.proofs.Limits.{priced_sum, priced_best}
use Rattle.shift_look.specs.declared.Extent.{Extent}
use Rattle.shift_look.specs.OrdersAndCounts.{counted_turns, turns_in}
use Rattle.refine_spec.specs.declared.RefineAnswer.{RefineAnswer}
use Rattle.refine_spec.specs.Rounds.{RoundRule, Stage, start_from, refined, first_change}
use Rattle.refine_spec.specs.Selection.{choice_from}
use Rattle.refine_spec.specs.Shift.{relaxed_set, moved_prices, shift_rule, greatest_worth, shift_start, shift_refined}
use Rattle.refine_spec.specs.Refine.{few_bytes, few_prices, refine_causes, board_with, refinement_of, not_refined, refine_of}
use Rattle.refine_spec.proofs.RefineCauses.{places_iff, clear_iff}
use Rattle.refine_spec.proofs.Rounds.{chosen_worth}
use Rattle.refine_spec.proofs.Relaxed.{relaxed_counted}
use Rattle.lists.proofs.Places.{taken_length}
use Rattle.model.proofs.Promised.{planned_length}
use Rattle.refine.specs.declared.planned.Planned.{Planned}
use Rattle.price_rule.specs.Rules.{Shift, size_of, prices_of, change_of, rule_limit, relaxed_of, fits_of, moved_of, choice_of, rule_worth, round_rule, ShiftPosed, RulePosed}
use Rattle.price_rounds.specs.declared.Reached.{Reached}
use Rattle.price_rounds.specs.Rounds.{rounds_from, Reaches, RoundsStart}
use Rattle.refine.specs.PlannedBoard.{shift_rounds, PlannedIn}
use Rattle.refine_spec.specs.Answer.{refined_by, refine_refused}
use Rattle.refine.proofs.BoardCases.{changed_size, board_changed}
use Rattle.instance.proofs.Posed.{loaded_tried, loaded_held, loaded_turns, loaded_count, loaded_groomers, loaded_slopes, loaded_drivers, loaded_few_slopes}

-- ---- the rule that the functions compute, by one table over all turns, is the shift's

module _ (e : Extent) (cols : List ℕ) (groomers : ℕ) (numbers : (t : ℕ) → t < (turns_in e cols).count → (1 ≤ (turns_in e cols).groomer t) × ((turns_in e cols).groomer t ≤ groomers)) where
  abbrev U : Turns
  U = turns_in e cols

  relaxed_is : (prices : List ℕ) → best_choice (counted_turns U e.slopes prices) ≡ relaxed_set U e.slopes prices
  unfolding counted_turns
  relaxed_is prices = sym (relaxed_counted U e.slopes prices)

  limit_is_lem : (prices : List ℕ) → price_sum U e.slopes prices + best_worth (counted_turns U e.slopes prices) ≡ limit_by U groomers e.slopes prices
  unfolding counted_turns limit_by
  limit_is_lem prices = ap (λ (n : ℕ). price_sum U e.slopes prices + n) (priced_best U e.slopes prices ∙ priced_sum U e.slopes prices groomers numbers)

  rule_is : round_rule (Shift e) cols ≡ shift_rule U groomers e.slopes
  unfolding round_rule rule_limit relaxed_of fits_of moved_of choice_of rule_worth size_of shift_rule
  rule_is =
      λ j. record {
        limit = λ prices. limit_is_lem prices j;
        choice = λ prices. choice_from (fits U) U (relaxed_is prices j);
        worth = λ S. chosen U.count S U.worth;
        moved = λ change prices. moved_prices U e.slopes (relaxed_is prices j) change prices;
      }

  pub refined_is : (rounds : ℕ) → shift_rounds e cols rounds (choice (turns_in e cols)) ≡ shift_refined (turns_in e cols) groomers e.slopes rounds
  unfolding rounds_from change_of prices_of shift_refined shift_start
  refined_is rounds =
      ap (λ (n : ℕ). refined (round_rule (Shift e) cols) rounds (start_from (round_rule (Shift e) cols) (first_change 4 (greatest_worth U)) (replicate (e.slopes + n) 0) (choice U))) (sym (count_is e.size cols))
      ∙ ap (λ (R : RoundRule). refined R rounds (start_from R (first_change 4 (greatest_worth U)) (replicate (e.slopes + U.count) 0) (choice U))) rule_is

-- ---- a board and a price list in lent places

pub map_given : (n : ℕ) → n ≤ most_turns → {size : ℕ} → size ≡ map_bytes n → length (take size (replicate {A = ℕ} (map_bytes most_turns) 0)) ≡ map_bytes n
map_given n h s = sym (zeros_size n h s) ∙ s

module _ (p : Size) (cols lent : List ℕ) {plan : Planned} {board map : List ℕ} (u : PlannedIn p cols lent plan board map) where
  pub start_worth : plan.worth ≡ worth_of_choice (turns_by p cols) (choice_in p.count map)
  start_worth = u.worth_is ∙ ap (worth_of_choice (turns_by p cols)) (sym u.choice_is)

  pub write_room : {map' : List ℕ} → board_length p.count p.count ≤ length lent → Clean p.count map' → board_header + length map' ≤ length board
  write_room h q = omega (arith, q.size, ap (λ (l : List ℕ). length l) u.board_is, puts_length (board_for (turns_by p cols)) lent 0)

pub posed_held : (e : Extent) (cols : List ℕ) → ShiftPosed e cols → Held e.size cols
posed_held e cols w = w.held

-- what the rounds start from
module _ (e : Extent) (cols lent prices room : List ℕ) (rounds : ℕ) {plan : Planned} {board map : List ℕ} (w : ShiftPosed e cols) (u : PlannedIn e.size cols lent plan board map) where
  pub rounds_start : e.slopes + e.size.count ≤ length prices → length room ≡ column_places
      → RoundsStart (record { rule = Shift e; rounds = rounds; worth = plan.worth }) cols (take (e.slopes + e.size.count) prices) map room
  unfolding RulePosed prices_of size_of rule_worth
  rounds_start l p = record { posed = w; prices = length-take-le (e.slopes + e.size.count) prices l; clean = u.clean; worth_is = start_worth e.size cols lent u; places = p }

-- and what they came to
pub map_kept : (e : Extent) {x : Stage} {r : Reached} {list map : List ℕ} → Reaches (size_of (Shift e)).count x r list map → Clean e.size.count map
unfolding size_of
map_kept e q = q.clean

module _ (e : Extent) (cols lent : List ℕ) {plan : Planned} {board map : List ℕ} (u : PlannedIn e.size cols lent plan board map) where
  module _ (rounds : ℕ) (prices : List ℕ) (room : board_length e.size.count e.size.count ≤ length lent) (enough : e.slopes + e.size.count ≤ length prices) {r : Reached} {list map' board' : List ℕ}
      (q : Reaches (size_of (Shift e)).count (rounds_from (Shift e) cols rounds (choice_in (size_of (Shift e)).count map)) r list map') (w : board' ≡ puts board worth_place (bytes_of 4 r.worth ++ map')) where
    abbrev T : Turns
    T = turns_in e cols

    abbrev x : Stage
    x = shift_rounds e cols rounds (choice T)

    reached : Reaches e.size.count (shift_rounds e cols rounds (choice T)) r list map'
    unfolding size_of
    reached = rw u.choice_is at q

    made : length x.choice ≡ T.count
    made = ap (λ (S : List Bool). length S) (sym reached.choice) ∙ choice_length e.size.count map' ∙ sym (count_is e.size cols)

    worth_made : r.worth ≡ worth_of_choice T x.choice
    unfolding rounds_from start_from round_rule rule_worth size_of
    worth_made = reached.worth ∙ chosen_worth (round_rule (Shift e) cols) rounds (start_from (round_rule (Shift e) cols) (change_of (Shift e) cols) (replicate (prices_of (Shift e)) 0) (choice T)) refl

    map_made : map' ≡ map_of x.choice
    map_made = clean_map e.size.count map' reached.clean ∙ ap map_of reached.choice

    planned : board_for T ≡ board_with T (choice T)
    unfolding board_for board_with
    planned = refl

    wide : board_length T.count T.count ≤ length lent
    wide = rw (count_is e.size cols) room

    board_is : board' ≡ board_with T x.choice ++ drop (length (board_with T x.choice)) lent
    board_is = w ∙ rw (u.board_is, planned, worth_made, map_made) (board_changed T (choice T) x.choice (planned_length T) made lent wide)

    pub refine_written : length list ≡ length (take (e.slopes + e.size.count) prices) → refined_by (record { refusal = 0; bytes = plan.bytes; worth = r.worth; limit = r.limit; rounds = r.rounds }) board' (list ++ drop (e.slopes + e.size.count) prices)
        ≡ refinement_of (turns_in e cols) (shift_rounds e cols rounds (choice (turns_in e cols))) lent prices
    unfolding refinement_of
    refine_written k =
        let l : length list ≡ e.slopes + e.size.count = k ∙ length-take-le (e.slopes + e.size.count) prices enough in
        let bytes : plan.bytes ≡ length (board_with T x.choice) = u.bytes_are ∙ ap (λ (v : List ℕ). length v) planned ∙ changed_size T (choice T) x.choice (planned_length T) made in
        rw (bytes, reached.worth, reached.limit, reached.rounds, board_is, ← l, reached.list_is)

pub ruleset written_cases = (map_given, posed_held, taken_length, start_worth, write_room, rounds_start, map_kept, refine_written)

-- ---- the answer

pub refine_list : (n slopes : ℕ) (prices : List ℕ) {p : Size} → p ≡ shift_size n → slopes + n ≤ length prices → slopes + p.count ≤ length prices
refine_list n slopes prices q l = rw q l

module _ (s cols : List ℕ) (rounds : ℕ) (board prices : List ℕ) {r : ReadAnswer} (g : Loaded s r cols) where
  pub refine_fault : {x : RefineAnswer} → (r.refusal ≡ 0 → ⊥) → x ≡ refine_refused r.refusal → refined_by x board prices ≡ refine_of s rounds board prices
  unfolding refine_of refine_causes
  refine_fault f h = rw h (tried_stops (loaded_tried s cols g) _ (λ k. not_refined k board prices) _ f)

  module _ (f : r.refusal ≡ 0) where
    prices_are : r.slopes + r.turns ≡ price_count s
    prices_are = rw ((g.posed f).slopes, (g.posed f).count)

    pub refine_few : {x : RefineAnswer} → x ≡ refine_refused buffer_too_small → length prices < r.slopes + r.turns → refined_by x board prices ≡ refine_of s rounds board prices
    unfolding refine_of refine_causes
    refine_few h l = rw h (tried_last (loaded_tried s cols g) _ (λ k. not_refined k board prices) f buffer_too_small (omega arith) ((places_iff s (length board) (length prices)).1 (few_prices (omega (arith, prices_are)))))

    pub refine_posed : {p : Size} → p ≡ shift_size r.turns → ShiftPosed (record { size = p; slopes = r.slopes }) cols
    refine_posed q =
        record {
          held = loaded_held s cols g f q;
          ranged = record { groomers = loaded_groomers s cols g f q };
          few_slopes = loaded_few_slopes s cols g f;
          numbers = loaded_slopes s cols g f q;
          drivers = loaded_drivers s cols g f q;
        }

    module _ {size : ℕ} (e : size ≡ board_length r.turns r.turns) where
      size_is : size ≡ board_length (turn_count s) (turn_count s)
      size_is = e ∙ rw (g.posed f).count

      pub refine_short : {x : RefineAnswer} → x ≡ refine_refused buffer_too_small → length board < size → refined_by x board prices ≡ refine_of s rounds board prices
      unfolding refine_of refine_causes
      refine_short h l = rw h (tried_last (loaded_tried s cols g) _ (λ k. not_refined k board prices) f buffer_too_small (omega arith) ((places_iff s (length board) (length prices)).1 (few_bytes (omega (arith, size_is)))))

      pub refine_done : {p : Size} {x : RefineAnswer} {board' prices' : List ℕ} → p ≡ shift_size r.turns → r.slopes + r.turns ≤ length prices → size ≤ length board
          → refined_by x board' prices' ≡ refinement_of (turns_by p cols) (shift_rounds (record { size = p; slopes = r.slopes }) cols rounds (choice (turns_by p cols))) board prices → refined_by x board' prices' ≡ refine_of s rounds board prices
      unfolding refine_of
      refine_done {p} q l k z =
          let posed : turns_by p cols ≡ sheet_turns s = loaded_turns s cols g f q in
          let numbers : (t : ℕ) → t < (turns_by p cols).count → (1 ≤ (turns_by p cols).groomer t) × ((turns_by p cols).groomer t ≤ (counts_in s).groomers) =
          λ t h. rw posed (sheet_groomers s (g.posed f).sound t (omega (arith, count_is p cols, loaded_count s cols g f q))) in
          z ∙ rw (refined_is (record { size = p; slopes = r.slopes }) cols (counts_in s).groomers numbers rounds, posed, (g.posed f).slopes)
          (sym (unless_none (refine_causes s (length board) (length prices)) _ (λ k. not_refined k board prices) ((clear_iff s (length board) (length prices)).1 ((g.posed f).sound, omega (arith, size_is), omega (arith, prices_are)))))
