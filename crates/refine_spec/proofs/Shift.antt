-- What the rounds of a shift keep: the list has a price for each slope and each turn, and that of a turn without a driver is 0; the choice has no conflict and leaves no room; limit and worth are theirs. Assumes nothing.
use mathlib.Core.Path.{◌≡◌, refl, sym, ap, ◌∙◌}
use mathlib.Core.Bool.{Bool, true, false, cond}
use mathlib.Core.List.{List}
use Prim.Native.Nat.{ℕ, ◌+◌, ◌-◌, ◌*◌, ◌≤◌, ◌<◌, min}
use native.Mathlib.Omega.{arith}
use lib.ListN.{length, get_or, replicate, length-append, length-replicate, get_or-replicate, get_or-append}
use lib.Seq.{get_or-append-add}
use borrow.Author.Tests.{ne_eqb}
use Rattle.lists.specs.Lists.{tab, below}
use Rattle.lists.proofs.Sums.{sum_zero, all_of, tab_length, tab_at}
use Rattle.model.specs.Turns.{Turns, one_driver, by_driver}
use Rattle.model.specs.Choice.{has, chosen, choice, fits}
use Rattle.model.proofs.Filled.{NoConflict, NoRoom}
use Rattle.model.proofs.Promised.{planned_length, choice_apart, choice_full}
use Rattle.limit_spec.specs.Prices.{slope_price, turn_price, pays_turn, limit_by}
use Rattle.refine_spec.specs.Rounds.{Stage, start_from}
use Rattle.refine_spec.specs.Shift.{relaxed_set, slope_payers, turn_payers, highest_price, moved_price, turn_change, moved_prices, shift_rule, shift_start, shift_refined}
use Rattle.refine_spec.proofs.Rounds.{listed_limit, chosen_worth, choice_kept, lists_kept, worth_grows}
use Rattle.refine_spec.proofs.Selection.{from_length, from_apart, from_full}

-- ---- a price in a round

module _ (change payers price : ℕ) where
  -- a price that no turn pays: lower by the change, at least 0
  pub moved_without_payers : payers ≡ 0 → moved_price change payers price ≡ price - change
  unfolding moved_price
  moved_without_payers e = rw e refl

  -- where one does, it stays
  pub moved_once : payers ≡ 1 → moved_price change payers price ≡ price
  unfolding moved_price
  moved_once e = rw e refl

  -- where several do, it rises by the change for each of them but one, not above the highest
  pub moved_several : 1 < payers → moved_price change payers price ≡ min highest_price (price + (payers - 1) * change)
  unfolding moved_price
  moved_several h = rw (ne_eqb payers 0 (λ e. omega arith), ne_eqb payers 1 (λ e. omega arith)) refl

-- ---- moved prices

module _ (T : Turns) (slopes : ℕ) (S : List Bool) (change : ℕ) (prices : List ℕ) where
  -- those of the slopes
  abbrev moved_slopes : List ℕ
  moved_slopes = tab slopes (λ k. moved_price change (slope_payers T S (k + 1)) (slope_price prices (k + 1)))

  -- those of the turns
  abbrev moved_turns : List ℕ
  moved_turns = tab T.count (λ u. moved_price (turn_change change) (turn_payers T S u) (turn_price slopes prices u))

  pub moved_length : length (moved_prices T slopes S change prices) ≡ slopes + T.count
  unfolding moved_prices
  moved_length =
      omega (
        arith,
        length-append moved_slopes moved_turns,
        tab_length slopes (λ k. moved_price change (slope_payers T S (k + 1)) (slope_price prices (k + 1))),
        tab_length T.count (λ u. moved_price (turn_change change) (turn_payers T S u) (turn_price slopes prices u)),
      )

  -- each is moved by the turns of the set that pay it
  pub moved_slope : (k : ℕ) → k < slopes → slope_price (moved_prices T slopes S change prices) (k + 1) ≡ moved_price change (slope_payers T S (k + 1)) (slope_price prices (k + 1))
  unfolding moved_prices slope_price
  moved_slope k l =
      let place : k + 1 - 1 ≡ k = omega arith in
      ap (λ (i : ℕ). get_or (moved_prices T slopes S change prices) i 0) place
      ∙ get_or-append moved_slopes moved_turns 0 k (omega (arith, tab_length slopes (λ k. moved_price change (slope_payers T S (k + 1)) (slope_price prices (k + 1)))))
      ∙ tab_at slopes (λ k. moved_price change (slope_payers T S (k + 1)) (slope_price prices (k + 1))) 0 k l

  pub moved_turn : (u : ℕ) → u < T.count → turn_price slopes (moved_prices T slopes S change prices) u ≡ moved_price (turn_change change) (turn_payers T S u) (turn_price slopes prices u)
  unfolding moved_prices turn_price
  moved_turn u l =
      let many = tab_length slopes (λ k. moved_price change (slope_payers T S (k + 1)) (slope_price prices (k + 1))) in
      ap (λ (k : ℕ). get_or (moved_prices T slopes S change prices) (k + u) 0) (sym many)
      ∙ get_or-append-add moved_slopes moved_turns u 0
      ∙ tab_at T.count (λ u. moved_price (turn_change change) (turn_payers T S u) (turn_price slopes prices u)) 0 u l

  -- no turn pays the price of one without a driver
  no_payers : (u : ℕ) → T.driver u ≡ 0 → turn_payers T S u ≡ 0
  unfolding turn_payers chosen pays_turn by_driver one_driver
  no_payers u e = sum_zero (λ t. cond (has S t) (cond (pays_turn T u t) 1 0) 0) (all_of (λ t. rw (pays_not t) (nothing (has S t))) (below T.count))
    where
      pays_not : (t : ℕ) → pays_turn T u t ≡ false
      pays_not t = rw e

      nothing : (b : Bool) → ◌≡◌ {A = ℕ} (cond b 0 0) 0
      nothing true = refl
      nothing false = refl

  -- and it stays 0
  pub moved_driverless : (u : ℕ) → u < T.count → T.driver u ≡ 0 → turn_price slopes prices u ≡ 0 → turn_price slopes (moved_prices T slopes S change prices) u ≡ 0
  moved_driverless u l d e = omega (arith, moved_turn u l, moved_without_payers (turn_change change) (turn_payers T S u) (turn_price slopes prices u) (no_payers u d), e)

-- ---- the rounds

module _ (T : Turns) (groomers slopes rounds : ℕ) where
  -- what they come to
  abbrev last : Stage
  last = shift_refined T groomers slopes rounds

  pub shift_list : length last.list ≡ slopes + T.count
  unfolding shift_refined shift_start start_from shift_rule
  shift_list =
      (lists_kept (shift_rule T groomers slopes) (λ l. length l ≡ slopes + T.count) (λ change prices e. moved_length T slopes (relaxed_set T slopes prices) change prices)
      rounds (shift_start T groomers slopes) (length-replicate (slopes + T.count) 0, length-replicate (slopes + T.count) 0)).1

  pub shift_driverless : (u : ℕ) → u < T.count → T.driver u ≡ 0 → turn_price slopes last.list u ≡ 0
  unfolding shift_refined shift_start start_from shift_rule turn_price
  shift_driverless u l d =
      let free : turn_price slopes (replicate (slopes + T.count) 0) u ≡ 0 = get_or-replicate (slopes + T.count) (slopes + u) 0 0 (omega arith) in
      (lists_kept (shift_rule T groomers slopes) (λ l. turn_price slopes l u ≡ 0) (λ change prices e. moved_driverless T slopes (relaxed_set T slopes prices) change prices u l d e)
      rounds (shift_start T groomers slopes) (free, free)).1

  pub shift_limit : last.limit ≡ limit_by T groomers slopes last.list
  unfolding shift_refined shift_start start_from shift_rule
  shift_limit = listed_limit (shift_rule T groomers slopes) rounds (shift_start T groomers slopes) refl

  pub shift_worth : last.worth ≡ chosen T.count last.choice T.worth
  unfolding shift_refined shift_start start_from shift_rule
  shift_worth = chosen_worth (shift_rule T groomers slopes) rounds (shift_start T groomers slopes) refl

  -- what each choice from a relaxed set has, and the planner's
  choice_has : (P : List Bool → Type 0) → ((prices : List ℕ) → P ((shift_rule T groomers slopes).choice prices)) → P (choice T) → P last.choice
  unfolding shift_refined shift_start start_from
  choice_has P each first = choice_kept (shift_rule T groomers slopes) P each rounds (shift_start T groomers slopes) first

  pub shift_apart : NoConflict T last.choice
  unfolding shift_rule
  shift_apart = choice_has (NoConflict T) (λ prices. from_apart T (relaxed_set T slopes prices)) (choice_apart T)

  pub shift_full : NoRoom T last.choice
  unfolding shift_rule
  shift_full = choice_has (NoRoom T) (λ prices. from_full T (relaxed_set T slopes prices)) (choice_full T)

  pub shift_size_lem : length last.choice ≡ T.count
  unfolding shift_rule
  shift_size_lem = choice_has (λ S. length S ≡ T.count) (λ prices. from_length (fits T) T (relaxed_set T slopes prices)) (planned_length T)

  -- the planner's choice is worth no more
  pub shift_planned : chosen T.count (choice T) T.worth ≤ last.worth
  unfolding shift_refined shift_start start_from shift_rule
  shift_planned = worth_grows (shift_rule T groomers slopes) rounds (shift_start T groomers slopes)
