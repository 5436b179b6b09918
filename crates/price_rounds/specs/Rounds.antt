-- How the functions hold a stage of the rounds; for inner functions only (requests P-2 and P-3). Assumes nothing.
use Rattle.std.specs.Prelude.{◌≡◌, Bool, false, cond, List, ℕ, ◌-◌, ◌≤◌, ltb, length, replicate}
use Rattle.turn.specs.Turn.{most_worth}
use Rattle.model.specs.Choice.{choose_each}
use Rattle.choice_map.specs.Choice.{choice_in, Clean}
use Rattle.instance.specs.Columns.{column_places, turns_by}
use Rattle.refine_spec.specs.Rounds.{Stage, start_from, refined}
use Rattle.refine_spec.specs.Selection.{by_worth}
use Rattle.price_rule.specs.Rules.{RuleFor, size_of, prices_of, change_of, fits_of, rule_worth, round_rule, RulePosed, OrderedFor, RowsFor}
use Rattle.price_rounds.specs.declared.Start.{Start}
use Rattle.price_rounds.specs.declared.Reached.{Reached}

-- what to make rounds for: a rule, the most rounds, and the worth of the choice to start from
pub record Task : Type 0 where
  pub rule : RuleFor
  pub rounds : ℕ
  pub worth : ℕ

abbrev pub task_by : RuleFor → Start → Task
task_by r s = record { rule = r; rounds = s.rounds; worth = s.worth }

-- at most so many rounds by a rule, from prices of 0 and some choice
unfoldable pub rounds_from : RuleFor → List ℕ → ℕ → List Bool → Stage
rounds_from r cols rounds S = refined (round_rule r cols) rounds (start_from (round_rule r cols) (change_of r cols) (replicate (prices_of r) 0) S)

-- the choice made from a list
unfoldable pub chosen_from : RuleFor → List ℕ → List ℕ → List Bool
chosen_from r cols list = choose_each (fits_of r cols) list (replicate (size_of r).count false)

-- a stage of which the choice stands in a map of n turns
abbrev pub stage_of : ℕ → List ℕ → ℕ → ℕ → ℕ → List ℕ → List ℕ → ℕ → Stage
stage_of n prices change made limit list map worth =
    record { prices = prices; change = change; rounds = made; limit = limit; list = list; choice = choice_in n map; worth = worth }

-- ---- as statements

-- a choice stands in the place of another exactly if it is worth more, and the worth is that of the one that stands
pub record BetterKept (r : RuleFor) (cols : List ℕ) (made S : List Bool) (worth : ℕ) (S' : List Bool) (worth' : ℕ) : Type 0 where
  pub choice_is : S' ≡ cond (ltb worth (rule_worth r cols made)) made S
  pub worth_is : worth' ≡ cond (ltb worth (rule_worth r cols made)) (rule_worth r cols made) worth

-- what the rounds came to: limit, worth and rounds as numbers, the price list, and the choice in a map of n turns
pub record Reaches (n : ℕ) (x : Stage) (r : Reached) (list map : List ℕ) : Type 0 where
  pub limit : r.limit ≡ x.limit
  pub worth : r.worth ≡ x.worth
  pub rounds : r.rounds ≡ x.rounds
  pub list_is : list ≡ x.list
  pub choice : choice_in n map ≡ x.choice
  pub clean : Clean n map

-- what rounds start from: a place for each price, the choice in a map with its worth, and room
pub record RoundsStart (t : Task) (cols list map room : List ℕ) : Type 0 where
  pub posed : RulePosed t.rule cols
  pub prices : length list ≡ prices_of t.rule
  pub clean : Clean (size_of t.rule).count map
  pub worth_is : t.worth ≡ rule_worth t.rule cols (choice_in (size_of t.rule).count map)
  pub places : length room ≡ column_places

-- what they came to from there
abbrev pub ReachedFrom : Task → List ℕ → List ℕ → Reached → List ℕ → List ℕ → Type 0
ReachedFrom t cols first r list map =
    Reaches (size_of t.rule).count (rounds_from t.rule cols t.rounds (choice_in (size_of t.rule).count first)) r list map

-- between two looks: what is left to do from there is what was to do from prices of 0 and the choice in a map
pub record BetweenLooks (r : RuleFor) (cols first : List ℕ) (rounds : ℕ) (prices : List ℕ) (change made limit : ℕ) (list best : List ℕ) (worth : ℕ) : Type 0 where
  pub few : made ≤ rounds
  pub small : change ≤ most_worth
  pub prices_are : length prices ≡ prices_of r
  pub list_is : length list ≡ prices_of r
  pub clean : Clean (size_of r).count best
  pub leads : refined (round_rule r cols) (rounds - made) (stage_of (size_of r).count prices change made limit list best worth)
      ≡ rounds_from r cols rounds (choice_in (size_of r).count first)

-- the loop at such a place: what no round changes is there, and lent places keep their lengths
pub record RoundsUnderway (t : Task) (cols list₀ best₀ orders rows ranks list best prices : List ℕ) (change limit worth made : ℕ) : Type 0 where
  pub posed : RulePosed t.rule cols
  pub ordered : OrderedFor t.rule cols orders
  pub ranked : ranks ≡ by_worth (turns_by (size_of t.rule) cols)
  pub stage : BetweenLooks t.rule cols best₀ t.rounds prices change made limit list best worth
  pub list_size : length list ≡ length list₀
  pub map_size : length best ≡ length best₀
  pub rows_are : RowsFor t.rule cols rows
