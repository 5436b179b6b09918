-- Rounds in which prices move, whatever the rule: a look at the prices, then a round, until limit and worth meet (requests P-2 and P-3). Assumes nothing.
use Rattle.std.specs.Prelude.{◌≡◌, Bool, cond, List, [], ◌∷◌, ℕ, zero, suc, ◌+◌, ◌-◌, ◌*◌, ◌/◌, ◌≤◌, ◌<◌, max, ltb, eqb}

-- a rule, for a shift or for a hall: the limit at some prices, the choice made from their relaxed set, what a choice is worth, and the prices after a round with some change
pub record RoundRule : Type 0 where
  pub limit : List ℕ → ℕ
  pub choice : List ℕ → List Bool
  pub worth : List Bool → ℕ
  pub moved : ℕ → List ℕ → List ℕ

-- between two looks: the prices to look at, the change of the next round, the rounds made; the lowest limit so far and the price list that gave it; the best choice so far and its worth
pub record Stage : Type 0 where
  pub prices : List ℕ
  pub change : ℕ
  pub rounds : ℕ
  pub limit : ℕ
  pub list : List ℕ
  pub choice : List Bool
  pub worth : ℕ

-- before the first look: the kept limit is that of the first prices already, so the first look does not lower it
unfoldable pub start_from : RoundRule → ℕ → List ℕ → List Bool → Stage
start_from R change prices S = record { prices = prices; change = change; rounds = 0; limit = R.limit prices; list = prices; choice = S; worth = R.worth S }

-- the lower limit with its list, of equal ones the earlier
unfoldable pub lower_limit : RoundRule → Stage → Stage
lower_limit R x =
    let lower = ltb (R.limit x.prices) x.limit in
    record {
      prices = x.prices;
      change = x.change;
      rounds = x.rounds;
      limit = cond lower (R.limit x.prices) x.limit;
      list = cond lower x.prices x.list;
      choice = x.choice;
      worth = x.worth;
    }

-- the choice made at these prices, where its worth is greater than the best so far
unfoldable pub better_choice : RoundRule → Stage → Stage
better_choice R x =
    let S = R.choice x.prices in
    let better = ltb x.worth (R.worth S) in
    record {
      prices = x.prices;
      change = x.change;
      rounds = x.rounds;
      limit = x.limit;
      list = x.list;
      choice = cond better S x.choice;
      worth = cond better (R.worth S) x.worth;
    }

-- a look at the prices
unfoldable pub looked : RoundRule → Stage → Stage
looked R x = better_choice R (lower_limit R x)

-- the change of the next round: fifteen sixteenths of the last one, rounded down, never below 1
unfoldable pub next_change : ℕ → ℕ
next_change change = max 1 (15 * change / 16)

-- a round: the prices of the last look move, and the change falls
unfoldable pub moving : RoundRule → Stage → Stage
moving R x =
    record {
      prices = R.moved x.change x.prices;
      change = next_change x.change;
      rounds = x.rounds + 1;
      limit = x.limit;
      list = x.list;
      choice = x.choice;
      worth = x.worth;
    }

-- at most so many rounds: after each look it ends if the lowest limit is the best worth, or no round is left
unfoldable pub refined : RoundRule → ℕ → Stage → Stage
refined R zero x = looked R x
refined R (suc n) x = let y = looked R x in cond (eqb y.limit y.worth) y (refined R n (moving R y))

-- the change of the round after look k, where that of the first round is given; the first look is number 0
unfoldable pub change_at : ℕ → ℕ → ℕ
change_at first zero = first
change_at first (suc k) = next_change (change_at first k)

-- the prices at look k, where those of look 0 are given: those of the look before it, moved
unfoldable pub prices_at : RoundRule → ℕ → List ℕ → ℕ → List ℕ
prices_at R change prices zero = prices
prices_at R change prices (suc k) = R.moved (change_at change k) (prices_at R change prices k)

-- the greatest of f over a list, 0 over none
unfoldable pub greatest_of : (ℕ → ℕ) → List ℕ → ℕ
greatest_of f [] = 0
greatest_of f (t ∷ ts) = max (f t) (greatest_of f ts)

-- the change of the first round: the greatest worth divided by a number, rounded up
unfoldable pub first_change : ℕ → ℕ → ℕ
first_change divisor greatest = (greatest + (divisor - 1)) / divisor

-- ---- as statements

-- of the looks up to the last one, the first with the lowest limit: this limit and its price list are kept
pub record LowestKept (R : RoundRule) (change : ℕ) (prices : List ℕ) (last limit : ℕ) (list : List ℕ) : Type 0 where
  pub look : ℕ
  pub looked_at : look ≤ last
  pub list_is : list ≡ prices_at R change prices look
  pub limit_is_lem : limit ≡ R.limit list
  pub lowest : (k : ℕ) → k ≤ last → limit ≤ R.limit (prices_at R change prices k)
  pub earliest : (k : ℕ) → k < look → limit < R.limit (prices_at R change prices k)

-- the choice S that is kept: the planned one, if no look's choice is worth more; else that of the first look whose choice is worth most
pub data BestKept (R : RoundRule) (change : ℕ) (prices : List ℕ) (planned : List Bool) (last : ℕ) (S : List Bool) : Type 0 where
  none_better : S ≡ planned → ((k : ℕ) → k ≤ last → R.worth (R.choice (prices_at R change prices k)) ≤ R.worth planned) → BestKept R change prices planned last S
  first_best : (look : ℕ) → look ≤ last → S ≡ R.choice (prices_at R change prices look) → R.worth planned < R.worth S →
      ((k : ℕ) → k ≤ last → R.worth (R.choice (prices_at R change prices k)) ≤ R.worth S) → ((k : ℕ) → k < look → R.worth (R.choice (prices_at R change prices k)) < R.worth S) →
      BestKept R change prices planned last S
