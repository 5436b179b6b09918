-- What the entry promises of a sheet that it does not refuse (request R-10). Assumes nothing.
use Rattle.std.specs.Prelude.{◌≡◌, ◌↔◌, Bool, true, List, ℕ, ◌+◌, ◌^◌, ◌≤◌, ◌<◌, length, take, drop}
use Rattle.model.specs.Pick.{steps}
use Rattle.model.specs.Choice.{chosen, choice}
use Rattle.model.specs.Rules.{Independent}
use Rattle.model.specs.Feasible.{Feasible, worth_of}
use Rattle.model.specs.Ceiling.{ceiling}
use Rattle.improve_spec.specs.Sets.{whole_visits, Compares}
use Rattle.improve_spec.specs.Promises.{SearchPromises}
use Rattle.sheet.specs.Read.{turn_count}
use Rattle.choice_map.specs.Choice.{map_bytes, map_of, choice_in}
use Rattle.board.specs.Board.{board_worth, board_map, board_choice}
use Rattle.instance_spec.specs.Problem.{sheet_turns}
use Rattle.plan_spec.specs.Plan.{planned_board}
use Rattle.improve_spec.specs.Improve.{improved_for, improve_of}

-- the first of the lent bytes then, which have a bit for each turn
abbrev pub answered_map : List ℕ → ℕ → List ℕ → List ℕ
answered_map s limit lent = take (map_bytes (turn_count s)) (improve_of s limit lent).lent

-- the turns whose bits are set there
abbrev pub answered_choice : List ℕ → ℕ → List ℕ → List Bool
answered_choice s limit lent = choice_in (turn_count s) (answered_map s limit lent)

-- ---- as statements

pub record ImprovedSheet (s : List ℕ) (limit : ℕ) (lent : List ℕ) : Type 0 where
  -- the answer is what the search finds
  pub found : improve_of s limit lent ≡ improved_for (sheet_turns s) limit lent
  -- which keeps the search's promises
  pub promises : SearchPromises (sheet_turns s) limit
  -- the worth and what the ceiling exceeds it by make the ceiling: nothing is cut off at 0
  pub up_to_ceiling : (improve_of s limit lent).answer.worth + (improve_of s limit lent).answer.above ≡ ceiling (sheet_turns s) (steps (sheet_turns s))
  -- no feasible set earns more than the two together
  pub bounded : (R : List ℕ) → Feasible (sheet_turns s) R → worth_of (sheet_turns s) R ≤ (improve_of s limit lent).answer.worth + (improve_of s limit lent).answer.above
  -- a whole search's visits are a number of 64 bits
  pub countable : whole_visits (sheet_turns s) < 2 ^ 64
  -- a limit no greater than the whole search needs is used up; with a greater one the visits are what the whole search needs
  pub all_used : limit ≤ whole_visits (sheet_turns s) → (improve_of s limit lent).answer.visits ≡ limit
  pub all_made : whole_visits (sheet_turns s) ≤ limit → (improve_of s limit lent).answer.visits ≡ whole_visits (sheet_turns s)
  -- the search ran whole exactly if the limit allows them all
  pub ran_whole : ((improve_of s limit lent).answer.whole ≡ true) ↔ (whole_visits (sheet_turns s) ≤ limit)
  -- then no feasible set earns more than the worth
  pub greatest : (improve_of s limit lent).answer.whole ≡ true → (R : List ℕ) → Feasible (sheet_turns s) R → worth_of (sheet_turns s) R ≤ (improve_of s limit lent).answer.worth
  -- the lent bytes hold a map
  pub room : map_bytes (turn_count s) ≤ length lent
  -- a greater limit earns at least as much, into whatever lent bytes that hold a map
  pub larger : (more : ℕ) → limit ≤ more → (place : List ℕ) → map_bytes (turn_count s) ≤ length place → (improve_of s limit lent).answer.worth ≤ (improve_of s more place).answer.worth
  -- there is a place for each turn, and no two turns whose bits are set conflict
  pub places : length (answered_choice s limit lent) ≡ (sheet_turns s).count
  pub apart : Independent (sheet_turns s) (answered_choice s limit lent)
  -- they earn the worth
  pub earns : chosen (sheet_turns s).count (answered_choice s limit lent) (sheet_turns s).worth ≡ (improve_of s limit lent).answer.worth
  -- the first bytes are their map: no other bit is set there
  pub map : answered_map s limit lent ≡ map_of (answered_choice s limit lent)
  -- the bytes after the map stay as they were
  pub behind : drop (map_bytes (turn_count s)) (improve_of s limit lent).lent ≡ drop (map_bytes (turn_count s)) lent
  -- the planned board is worth no more
  pub no_less : board_worth (planned_board s) ≤ (improve_of s limit lent).answer.worth
  -- its turns are compared first, then the sets that the limit pays for, one after another; the worth and the turns are what that finds
  pub starts : board_choice (planned_board s) ≡ choice (sheet_turns s)
  pub compares : Compares (sheet_turns s) limit (improve_of s limit lent).answer.worth (answered_choice s limit lent)
  -- where nothing of greater worth is found, the map is the planned board's
  pub plan_kept : (improve_of s limit lent).answer.worth ≤ board_worth (planned_board s) → answered_map s limit lent ≡ board_map (planned_board s)

-- the answer has the planned board's set
pub record PlanComesBack (s : List ℕ) (limit : ℕ) (lent : List ℕ) : Type 0 where
  pub worth_is : (improve_of s limit lent).answer.worth ≡ board_worth (planned_board s)
  pub map_is : answered_map s limit lent ≡ board_map (planned_board s)
