-- What the hall's limit and its rounds promise, of what the entries write and return (request P-3). Assumes nothing.
use Rattle.std.specs.Prelude.{◌≡◌, ◌≢◌, ◌⊎◌, Bool, List, ℕ, ◌+◌, ◌≤◌, ◌<◌, take, drop, replicate}
use Rattle.lists.specs.Lists.{sum_over, below}
use Rattle.turn.specs.Turn.{shift_minutes}
use Rattle.sheet.specs.Read.{counts_in, turn_count}
use Rattle.choice_map.specs.Choice.{map_bytes, map_of, choice_in}
use Rattle.charge_spec.specs.Hall.{window_count, Allowed, AllowedChoice}
use Rattle.charge_spec.specs.Plan.{worth_in, hall_choice}
use Rattle.charge_spec.specs.Promises.{worth_of_windows}
use Rattle.limit_spec.specs.Limit.{limit_is}
use Rattle.limit_spec.specs.Promises.{AllFree}
use Rattle.charge_spec.specs.Charge.{hall_of, charge_of}
use Rattle.hall_by_prices_spec.specs.Prices.{richest_of, vehicle_best, supply_cost, MostOfVehicle}
use Rattle.refine_spec.specs.Rounds.{RoundRule, greatest_of, first_change, LowestKept, BestKept}
use Rattle.hall_by_prices_spec.specs.Hall.{hall_rule}
use Rattle.hall_by_prices_spec.specs.Limit.{charge_limit_of}
use Rattle.hall_by_prices_spec.specs.Refine.{charge_refine_of}

-- of a limit that is not refused, whatever the prices
pub record ChargeLimitPromised (s prices : List ℕ) : Type 0 where
  -- no allowed set of the sheet's windows is worth more
  pub within : (R : List ℕ) → Allowed (hall_of s) R → worth_of_windows (hall_of s) R ≤ (charge_limit_of s prices).limit
  -- it is what all units cost and, for each vehicle from 1 on, the most that a window of it counts for
  pub parts : (charge_limit_of s prices).limit ≡ supply_cost (hall_of s) prices + sum_over (λ k. (vehicle_best (hall_of s) prices (k + 1)).worth) (below (counts_in s).slopes)
  pub vehicle_most : (v : ℕ) → MostOfVehicle (hall_of s) prices v (vehicle_best (hall_of s) prices v).worth
  -- where all prices are 0, it is the sum over the vehicles of the worths of their richest windows
  pub free : AllFree prices → (charge_limit_of s prices).limit ≡ sum_over (λ k. (richest_of (hall_of s) (hall_of s).windows.worth (k + 1) (turn_count s)).worth) (below (counts_in s).slopes)

-- the bytes of the map that the rounds wrote
abbrev pub refined_map : List ℕ → ℕ → List ℕ → List ℕ → List ℕ
refined_map s rounds map prices = take (map_bytes (turn_count s)) (charge_refine_of s rounds map prices).map

-- the windows whose bits are set there
abbrev pub refined_windows : List ℕ → ℕ → List ℕ → List ℕ → List Bool
refined_windows s rounds map prices = choice_in (turn_count s) (refined_map s rounds map prices)

-- the price list that they wrote
abbrev pub refined_minutes : List ℕ → ℕ → List ℕ → List ℕ → List ℕ
refined_minutes s rounds map prices = take shift_minutes (charge_refine_of s rounds map prices).prices

-- the rule of a charging sheet's rounds, and the change of the first
abbrev pub sheet_rule : List ℕ → RoundRule
sheet_rule s = hall_rule (hall_of s) (counts_in s).slopes

abbrev pub sheet_change : List ℕ → ℕ
sheet_change s = first_change 8 (greatest_of (hall_of s).windows.worth (below (window_count (hall_of s))))

-- of an answer that refuses nothing
pub record ChargeRefinePromised (s : List ℕ) (rounds : ℕ) (map prices : List ℕ) : Type 0 where
  -- the windows are an allowed set, the bytes are their map, and they are worth what is returned
  pub allowed : AllowedChoice (hall_of s) (refined_windows s rounds map prices)
  pub map_is : refined_map s rounds map prices ≡ map_of (refined_windows s rounds map prices)
  pub worth_is : worth_in (hall_of s) (refined_windows s rounds map prices) ≡ (charge_refine_of s rounds map prices).worth
  -- that is no less than what the hall's plan is worth
  pub no_less : (charge_of s map).answer.worth ≤ (charge_refine_of s rounds map prices).worth
  -- the limit is what the limit's entry gives for the written prices
  pub limit_is_lem : charge_limit_of s (refined_minutes s rounds map prices) ≡ limit_is (charge_refine_of s rounds map prices).limit
  -- no allowed set is worth more than the limit; the written one is not
  pub within : (R : List ℕ) → Allowed (hall_of s) R → worth_of_windows (hall_of s) R ≤ (charge_refine_of s rounds map prices).limit
  pub worth_within : (charge_refine_of s rounds map prices).worth ≤ (charge_refine_of s rounds map prices).limit
  -- where limit and worth are equal, none is worth more than the written set
  pub best : (charge_refine_of s rounds map prices).limit ≡ (charge_refine_of s rounds map prices).worth → (R : List ℕ) → Allowed (hall_of s) R →
      worth_of_windows (hall_of s) R ≤ worth_in (hall_of s) (refined_windows s rounds map prices)
  -- of the looks made, one more than the rounds, the written prices are those of the first with the lowest limit, which is returned
  pub prices_kept : LowestKept (sheet_rule s) (sheet_change s) (replicate shift_minutes 0) (charge_refine_of s rounds map prices).rounds (charge_refine_of s rounds map prices).limit (refined_minutes s rounds map prices)
  -- the written windows are those of the first look whose choice is worth most, if it is worth more than the hall's plan; else the plan's
  pub choice_kept : BestKept (sheet_rule s) (sheet_change s) (replicate shift_minutes 0) (hall_choice (hall_of s)) (charge_refine_of s rounds map prices).rounds (refined_windows s rounds map prices)
  -- with more rounds the worth is no less, and the limit is no higher, whatever is lent then, if nothing is refused
  pub more_worth : (more : ℕ) (map' prices' : List ℕ) → rounds ≤ more → (charge_refine_of s more map' prices').refusal ≡ 0 →
      (charge_refine_of s rounds map prices).worth ≤ (charge_refine_of s more map' prices').worth
  pub more_limit : (more : ℕ) (map' prices' : List ℕ) → rounds ≤ more → (charge_refine_of s more map' prices').refusal ≡ 0 →
      (charge_refine_of s more map' prices').limit ≤ (charge_refine_of s rounds map prices).limit
  -- with as many rounds worth, limit and rounds made are the same
  pub places_apart : (map' prices' : List ℕ) → (charge_refine_of s rounds map' prices').refusal ≡ 0 →
      ((charge_refine_of s rounds map' prices').worth ≡ (charge_refine_of s rounds map prices).worth) × ((charge_refine_of s rounds map' prices').limit ≡ (charge_refine_of s rounds map prices).limit)
      × ((charge_refine_of s rounds map' prices').rounds ≡ (charge_refine_of s rounds map prices).rounds)
  -- the rounds made: no more than given; fewer only if limit and worth are equal; and with a number of rounds below that they are not, whatever is lent then
  pub made : (charge_refine_of s rounds map prices).rounds ≤ rounds
  pub ended : ((charge_refine_of s rounds map prices).rounds ≡ rounds) ⊎ ((charge_refine_of s rounds map prices).limit ≡ (charge_refine_of s rounds map prices).worth)
  pub not_before : (k : ℕ) (map' prices' : List ℕ) → k < (charge_refine_of s rounds map prices).rounds → (charge_refine_of s k map' prices').refusal ≡ 0 →
      (charge_refine_of s k map' prices').limit ≢ (charge_refine_of s k map' prices').worth
  -- what is lent after the map and after the list is as before
  pub map_rest : drop (map_bytes (turn_count s)) (charge_refine_of s rounds map prices).map ≡ drop (map_bytes (turn_count s)) map
  pub prices_rest : drop shift_minutes (charge_refine_of s rounds map prices).prices ≡ drop shift_minutes prices
