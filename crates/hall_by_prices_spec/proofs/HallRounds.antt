-- The rounds of a hall, however many: what limit, list, choice and worth are after them. Assumes nothing.
use mathlib.Core.Path.{◌≡◌, refl, ap, ◌∙◌}
use mathlib.Core.Bool.{Bool}
use mathlib.Core.List.{List}
use Prim.Native.Nat.{ℕ, ◌+◌, ◌-◌, ◌*◌, ◌/◌, ◌≤◌, ◌<◌, min}
use native.Mathlib.Omega.{arith}
use native.Mathlib.Nat.{zero-div, mul-zero}
use native.Mathlib.Decide.{dec_lt}
use lib.ListN.{length, get_or, replicate, length-replicate, get_or-replicate, get_or-eq_default}
use borrow.Author.Tests.{lt-ltb, le-ltb}
use Rattle.lists.specs.Lists.{tab}
use Rattle.lists.proofs.Sums.{tab_length, tab_at}
use Rattle.turn.specs.Turn.{shift_minutes}
use Rattle.charge_spec.specs.Hall.{Hall, window_count, vehicle, drawn_at, Allowed, AllowedChoice}
use Rattle.charge_spec.specs.Plan.{rounded_up, worth_in, hall_worth}
use Rattle.charge_spec.specs.Promises.{worth_of_windows}
use Rattle.charge_spec.proofs.Halls.{plan_allowed, plan_length}
use Rattle.refine_spec.specs.Rounds.{RoundRule, Stage, start_from}
use Rattle.refine_spec.proofs.Rounds.{listed_limit, chosen_worth, choice_kept, lists_kept, worth_grows}
use Rattle.hall_by_prices_spec.specs.Prices.{minute_price, hall_limit, hall_relaxed}
use Rattle.hall_by_prices_spec.specs.Hall.{highest_minute_price, moved_minute, moved_minutes, hall_rule, hall_start, hall_refined}
use Rattle.hall_by_prices_spec.proofs.HallLimits.{within_hall_limit}
use Rattle.hall_by_prices_spec.proofs.Chosen.{made_allowed, made_length, worth_members}

-- ---- a price in a round

module _ (change units drawn price : ℕ) where
  pub moved_over : units < drawn → moved_minute change units drawn price ≡ min highest_minute_price (price + rounded_up (change * (drawn - units)) units)
  unfolding moved_minute
  moved_over h = rw (lt-ltb units drawn h)

  pub moved_within : drawn ≤ units → moved_minute change units drawn price ≡ price - change * (units - drawn) / units
  unfolding moved_minute
  moved_within h = rw (le-ltb units drawn h)

  pub moved_highest : price ≤ highest_minute_price → moved_minute change units drawn price ≤ highest_minute_price
  moved_highest h = elim (dec_lt units drawn) [ yes l ↦ omega (arith, moved_over l) | no l ↦ omega (arith, moved_within (omega arith)) ]

-- with exactly the units drawn it stays
pub moved_level : (change units price : ℕ) → moved_minute change units units price ≡ price
moved_level change units price =
    let left : units - units ≡ 0 = omega arith in
    let fall : change * (units - units) / units ≡ 0 = ap (λ (k : ℕ). change * k / units) left ∙ ap (λ (k : ℕ). k / units) (mul-zero change) ∙ zero-div units in
    omega (arith, moved_within change units units price (omega arith), fall)

-- ---- price lists

-- as rounds hold one: a price a minute, none above the highest
pub record MinuteList (prices : List ℕ) : Type 0 where
  pub minutes : length prices ≡ shift_minutes
  pub highest : (m : ℕ) → minute_price prices m ≤ highest_minute_price

-- past its end a list reads as 0
bounded : (n top : ℕ) (prices : List ℕ) → length prices ≡ n → ((m : ℕ) → m < n → get_or prices m 0 ≤ top) → (m : ℕ) → get_or prices m 0 ≤ top
bounded n top prices e h m = elim (dec_lt m n) [ yes l ↦ h m l | no l ↦ omega (arith, get_or-eq_default prices 0 {n = m} (omega (arith, e))) ]

zeros_bounded : (n top m : ℕ) → get_or (replicate n 0) m 0 ≤ top
zeros_bounded n top = bounded n top (replicate n 0) (length-replicate {A = ℕ} n 0) (λ m l. omega (arith, get_or-replicate {A = ℕ} n m 0 0 l))

tab_bounded : (n top : ℕ) (f : ℕ → ℕ) → ((m : ℕ) → f m ≤ top) → (m : ℕ) → get_or (tab n f) m 0 ≤ top
tab_bounded n top f h = bounded n top (tab n f) (tab_length n f) (λ m l. rw (tab_at n f 0 m l) (h m))

first_list : MinuteList (replicate shift_minutes 0)
unfolding minute_price
first_list = record { minutes = length-replicate {A = ℕ} shift_minutes 0; highest = zeros_bounded shift_minutes highest_minute_price }

module _ (H : Hall) (S : List Bool) (change : ℕ) (prices : List ℕ) where
  -- each minute's price is moved by what the set's windows draw in it
  pub moved_minute_lem : (m : ℕ) → m < shift_minutes → minute_price (moved_minutes H S change prices) m ≡ moved_minute change H.units (drawn_at H S m) (minute_price prices m)
  unfolding moved_minutes minute_price
  moved_minute_lem m l = tab_at shift_minutes (λ m. moved_minute change H.units (drawn_at H S m) (get_or prices m 0)) 0 m l

  pub moved_list : MinuteList prices → MinuteList (moved_minutes H S change prices)
  unfolding moved_minutes minute_price
  moved_list k =
      let f : ℕ → ℕ = λ m. moved_minute change H.units (drawn_at H S m) (get_or prices m 0) in
      record { minutes = tab_length shift_minutes f; highest = tab_bounded shift_minutes highest_minute_price f (λ m. moved_highest change H.units (drawn_at H S m) (get_or prices m 0) (k.highest m)) }

module _ (H : Hall) (vehicles : ℕ) where
  abbrev R : RoundRule
  R = hall_rule H vehicles

  abbrev start : Stage
  start = hall_start H vehicles

  -- ---- each round

  moves : (change : ℕ) (prices : List ℕ) → MinuteList prices → MinuteList (R.moved change prices)
  unfolding hall_rule
  moves change prices k = moved_list H (hall_relaxed H prices) change prices k

  -- allowed windows, and a Bool for each window
  abbrev Fair : List Bool → Type 0
  Fair S = AllowedChoice H S × (length S ≡ window_count H)

  makes : (prices : List ℕ) → Fair (R.choice prices)
  unfolding hall_rule
  makes prices = (made_allowed H (hall_relaxed H prices), made_length H (hall_relaxed H prices))

  -- ---- after n rounds at most

  module _ (n : ℕ) where
    abbrev after : Stage
    after = hall_refined H vehicles n

    -- the lists are such lists
    pub rounds_lists : MinuteList after.prices × MinuteList after.list
    unfolding hall_refined hall_start start_from
    rounds_lists = lists_kept R MinuteList moves n start (first_list, first_list)

    -- the limit is that of the list
    pub rounds_limit : after.limit ≡ hall_limit H vehicles after.list
    unfolding hall_refined hall_start start_from hall_rule
    rounds_limit = listed_limit R n start refl

    -- the worth is that of the choice, whose windows are allowed
    pub rounds_worth : after.worth ≡ worth_in H after.choice
    unfolding hall_refined hall_start start_from hall_rule
    rounds_worth = chosen_worth R n start refl

    pub rounds_choice : AllowedChoice H after.choice × (length after.choice ≡ window_count H)
    unfolding hall_refined hall_start start_from
    rounds_choice = choice_kept R Fair makes n start (plan_allowed H, plan_length H)

    -- the plan's is not worth more
    pub rounds_no_less : hall_worth H ≤ after.worth
    unfolding hall_refined hall_worth hall_start start_from hall_rule
    rounds_no_less = worth_grows R n start

    -- no allowed set is worth more than the limit
    pub rounds_within : ((t : ℕ) → t < window_count H → (1 ≤ vehicle H t) × (vehicle H t ≤ vehicles)) → (Q : List ℕ) → Allowed H Q → worth_of_windows H Q ≤ after.limit
    rounds_within numbers Q a = rw rounds_limit (within_hall_limit H after.list vehicles numbers Q a)

    -- so that the choice is not
    pub rounds_worth_within : ((t : ℕ) → t < window_count H → (1 ≤ vehicle H t) × (vehicle H t ≤ vehicles)) → after.worth ≤ after.limit
    rounds_worth_within numbers = omega (arith, rounds_worth, worth_members H after.choice, rounds_within numbers _ rounds_choice.0)
