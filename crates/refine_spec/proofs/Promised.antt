-- What the entry's own answer promises. Assumes nothing.
use Prim.Native.Nat.{ℕ, ◌+◌, ◌≤◌}
use mathlib.Core.Path.{◌≡◌, sym, ap, ◌∙◌, refl}
use mathlib.Core.List.{List, [], ◌∷◌, ◌++◌}
use mathlib.Core.Bool.{not}
use native.Mathlib.Omega.{arith}
use lib.Dec.{eqb}
use lib.ListN.{length, take, drop, replicate}
use lib.Seq.{take-append_seam, drop-append_seam}
use borrow.Author.Tests.{eq-eqb}
use Rattle.refine_spec.specs.Shift.{shift_rule, shift_start, shift_refined}
use Rattle.refine_spec.proofs.Rounds.{Given, given_made, given_ended, given_more_worth, given_more_limit, given_not_before, given_same}
use Rattle.refusal.specs.Number.{bad_prices}
use Rattle.refusal.specs.Cause.{◌when◌, first_of}
use Rattle.refusal.proofs.Order.{first_goes}
use Rattle.sheet.specs.Read.{counts_in, sheet_causes}
use Rattle.sheet.proofs.Readings.{sheet_numbered}
use Rattle.model.specs.Turns.{Turns}
use Rattle.model.specs.Steps.{tally}
use Rattle.model.specs.Pick.{steps}
use Rattle.model.specs.Choice.{chosen, choice, members}
use Rattle.model.specs.Feasible.{Feasible, worth_of}
use Rattle.model.proofs.Members.{chosen_members, members_feasible}
use Rattle.model.proofs.Promised.{choice_earns}
use Rattle.model.proofs.Readings.{apart_reads}
use Rattle.board.specs.Board.{board_tally, board_worth, board_choice, written_steps}
use Rattle.instance_spec.specs.Problem.{sheet_turns}
use Rattle.instance_spec.proofs.SheetTurns.{sheet_count, sheet_lengths}
use Rattle.check_spec.specs.Check.{Passes}
use Rattle.check_spec.proofs.Passing.{passes_feasible}
use Rattle.plan_spec.specs.Plan.{planned_board}
use Rattle.plan_spec.proofs.Planned.{planned_back}
use Rattle.limit_spec.specs.declared.LimitAnswer.{LimitAnswer}
use Rattle.limit_spec.specs.Prices.{turn_price}
use Rattle.limit_spec.specs.Limit.{price_count, limit_causes, sheet_limit, limit_is, limit_of}
use Rattle.limit_spec.proofs.LimitCauses as limits
use Rattle.limit_spec.proofs.Promised.{limit_promised}
use Rattle.refine_spec.specs.Rounds.{Stage, start_from, LowestKept, BestKept}
use Rattle.refine_spec.specs.Refine.{Refinement, board_with, refinement_of, refine_of}
use Rattle.refine_spec.specs.Promises.{refined_board, refined_prices, sheet_rule, sheet_change, RefinePromised}
use Rattle.refine_spec.proofs.Kept.{lowest_kept, best_kept}
use Rattle.refine_spec.proofs.RefineCauses.{sheet_refined, refine_is, refine_clear}
use Rattle.refine_spec.proofs.Boards.{ReadsWith, sheet_back, with_passes}
use Rattle.refine_spec.proofs.Shift.{shift_list, shift_driverless, shift_limit, shift_worth, shift_size_lem, shift_apart, shift_full, shift_planned}

-- a list of the right length on a sheet that is not refused has a limit
limit_given : (s prices : List ℕ) → first_of (sheet_causes s) ≡ 0 → length prices ≡ price_count s → (limit_of s prices).refusal ≡ 0
unfolding limit_causes first_of
limit_given s prices z l =
    limits.limit_number s prices
    ∙ (first_goes (sheet_causes s) (bad_prices when not (eqb (length prices) (price_count s)) ∷ []) (sheet_numbered s) z ∙ rw (eq-eqb (length prices) (price_count s) l))

-- the numbers returned are those of the last stage
module _ (s : List ℕ) (rounds : ℕ) (board prices : List ℕ) (e : (refine_of s rounds board prices).refusal ≡ 0) where
  given : Given (sheet_refined s rounds) (refine_of s rounds board prices).worth (refine_of s rounds board prices).limit (refine_of s rounds board prices).rounds
  unfolding refinement_of
  given =
      let r = refine_is s rounds board prices e in
      record {
        worth_is = ap (λ (r : Refinement). r.worth) r;
        limit_is_lem = ap (λ (r : Refinement). r.limit) r;
        rounds_is = ap (λ (r : Refinement). r.rounds) r;
      }

module _ (s : List ℕ) (rounds : ℕ) (board prices : List ℕ) (e : (refine_of s rounds board prices).refusal ≡ 0) where
  -- the sheet's turns, its groomers and slopes, and the last stage
  abbrev T : Turns
  T = sheet_turns s

  abbrev groomers : ℕ
  groomers = (counts_in s).groomers

  abbrev slopes : ℕ
  slopes = (counts_in s).slopes

  abbrev x : Stage
  x = sheet_refined s rounds

  -- the board's bytes
  abbrev text : List ℕ
  text = board_with T x.choice

  sound : first_of (sheet_causes s) ≡ 0
  sound = (refine_clear s rounds board prices e).0

  -- ---- what stands at the front of what is lent, and after

  front : refined_board s rounds board prices ≡ text
  unfolding refinement_of
  front = ap (λ (r : Refinement). take r.bytes r.board) (refine_is s rounds board prices e) ∙ take-append_seam text (drop (length text) board)

  rest : drop (refine_of s rounds board prices).bytes (refine_of s rounds board prices).board ≡ drop (refine_of s rounds board prices).bytes board
  unfolding refinement_of
  rest =
      ap (λ (r : Refinement). drop r.bytes r.board) (refine_is s rounds board prices e) ∙ drop-append_seam text (drop (length text) board)
      ∙ ap (λ (r : Refinement). drop r.bytes board) (sym (refine_is s rounds board prices e))

  list_length : length x.list ≡ price_count s
  list_length = omega (arith, shift_list T groomers slopes rounds, sheet_count s sound)

  list_front : refined_prices s rounds board prices ≡ x.list
  unfolding refinement_of
  list_front =
      ap (λ (r : Refinement). take (price_count s) r.prices) (refine_is s rounds board prices e)
      ∙ ap (λ (k : ℕ). take k (x.list ++ drop (length x.list) prices)) (sym list_length)
      ∙ take-append_seam x.list (drop (length x.list) prices)

  list_rest : drop (price_count s) (refine_of s rounds board prices).prices ≡ drop (price_count s) prices
  unfolding refinement_of
  list_rest =
      ap (λ (r : Refinement). drop (price_count s) r.prices) (refine_is s rounds board prices e)
      ∙ ap (λ (k : ℕ). drop k (x.list ++ drop (length x.list) prices)) (sym list_length)
      ∙ drop-append_seam x.list (drop (length x.list) prices)
      ∙ ap (λ (k : ℕ). drop k prices) list_length

  -- ---- the board

  back : ReadsWith T x.choice text
  back = sheet_back s sound x.choice (shift_size_lem T groomers slopes rounds)

  earned : tally (steps T) ≤ chosen T.count x.choice T.worth
  earned = omega (arith, choice_earns T, shift_planned T groomers slopes rounds, shift_worth T groomers slopes rounds)

  text_passes : Passes s text
  text_passes = with_passes s sound x.choice (shift_size_lem T groomers slopes rounds) (shift_apart T groomers slopes rounds) (shift_full T groomers slopes rounds) earned

  worth_written : board_worth (refined_board s rounds board prices) ≡ (refine_of s rounds board prices).worth
  worth_written = ap board_worth front ∙ (back.worth ∙ (sym (shift_worth T groomers slopes rounds) ∙ sym (given s rounds board prices e).worth_is))

  worth_planned : board_worth (planned_board s) ≤ (refine_of s rounds board prices).worth
  worth_planned = omega (arith, (planned_back s sound).worth, shift_planned T groomers slopes rounds, (given s rounds board prices e).worth_is)

  -- ---- the limit

  list_given : (limit_of s x.list).refusal ≡ 0
  list_given = limit_given s x.list sound list_length

  list_limit : limit_of s x.list ≡ limit_is x.limit
  unfolding sheet_limit
  list_limit = limits.limit_is_lem s x.list list_given ∙ ap limit_is (sym (shift_limit T groomers slopes rounds))

  limit_written : limit_of s (refined_prices s rounds board prices) ≡ limit_is (refine_of s rounds board prices).limit
  limit_written = ap (limit_of s) list_front ∙ (list_limit ∙ ap limit_is (sym (given s rounds board prices e).limit_is_lem))

  all_within : (R : List ℕ) → Feasible T R → worth_of T R ≤ (refine_of s rounds board prices).limit
  all_within R f = omega (arith, (limit_promised s x.list list_given).within R f, ap (λ (a : LimitAnswer). a.limit) list_limit, (given s rounds board prices e).limit_is_lem)

  own_within : (refine_of s rounds board prices).worth ≤ (refine_of s rounds board prices).limit
  own_within =
      let S = x.choice in
      omega (
        arith,
        all_within (members T.count S) (members_feasible T S (apart_reads T S (sheet_lengths s sound) (shift_apart T groomers slopes rounds))),
        chosen_members T.count S T.worth,
        shift_worth T groomers slopes rounds,
        (given s rounds board prices e).worth_is,
      )

  boards : (b : List ℕ) → Passes s b → board_worth b ≤ (refine_of s rounds board prices).limit
  boards b p = let (R, f, w) = passes_feasible s b p in omega (arith, all_within R f, w)

  -- ---- what is kept

  first_prices : replicate {A = ℕ} (slopes + T.count) 0 ≡ replicate (price_count s) 0
  first_prices = ap (λ (n : ℕ). replicate {A = ℕ} (slopes + n) 0) (sheet_count s sound)

  prices_first : LowestKept (sheet_rule s) (sheet_change s) (replicate (price_count s) 0) (refine_of s rounds board prices).rounds (refine_of s rounds board prices).limit (refined_prices s rounds board prices)
  unfolding shift_refined shift_start
  prices_first =
      rw (list_front, (given s rounds board prices e).rounds_is, (given s rounds board prices e).limit_is_lem, ← first_prices)
      (lowest_kept (sheet_rule s) (sheet_change s) (replicate (slopes + T.count) 0) (choice T) rounds)

  choice_first : BestKept (sheet_rule s) (sheet_change s) (replicate (price_count s) 0) (board_choice (planned_board s)) (refine_of s rounds board prices).rounds (board_choice (refined_board s rounds board prices))
  unfolding shift_refined shift_start
  choice_first =
      rw (front, back.chosen_turns, (planned_back s sound).chosen_turns, (given s rounds board prices e).rounds_is, ← first_prices)
      (best_kept (sheet_rule s) (sheet_change s) (replicate (slopes + T.count) 0) (choice T) rounds)

  -- every answer that refuses nothing
  pub refine_promised : RefinePromised s rounds board prices
  unfolding shift_refined shift_start start_from
  refine_promised =
      let R = shift_rule T groomers slopes in
      let start = shift_start T groomers slopes in
      let g = given s rounds board prices e in
      record {
        passes = rw front text_passes;
        steps_same = ap written_steps front ∙ (back.step_list ∙ sym (planned_back s sound).step_list);
        tally_same = ap board_tally front ∙ (back.tallied ∙ sym (planned_back s sound).tallied);
        worth_is = worth_written;
        no_less = worth_planned;
        limit_is_lem = limit_written;
        within = all_within;
        worth_within = own_within;
        best = λ q R f. omega (arith, all_within R f, q, worth_written);
        boards_within = λ b p. boards b p;
        best_board = λ q b p. omega (arith, boards b p, q, worth_written);
        prices_kept = prices_first;
        choice_kept = choice_first;
        more_worth = λ k b p h o. given_more_worth R start refl rounds g k (given s k b p o) h;
        more_limit = λ k b p h o. given_more_limit R start refl rounds g k (given s k b p o) h;
        places_apart = λ b p o. given_same g (given s rounds b p o);
        made = given_made R start refl rounds g;
        ended = given_ended R start refl rounds g;
        not_before = λ k b p h o. given_not_before R start refl rounds g k (given s k b p o) h;
        driverless = λ u l d. ap (λ (p : List ℕ). turn_price slopes p u) list_front ∙ shift_driverless T groomers slopes rounds u l d;
        board_rest = rest;
        prices_rest = list_rest;
      }
